pub mod Lines
pub mod Rows
pub mod Desks
pub mod Report
