pub mod Counts
pub mod Digits
pub mod Pointers
pub mod Shifts
pub mod Signed
pub mod Unit
