pub mod Linear
pub mod Agree
pub mod Steps
pub mod Spread
pub mod Codes
