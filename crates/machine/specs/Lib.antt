pub mod Calls
pub mod Users
pub mod Machine
pub mod Compare
