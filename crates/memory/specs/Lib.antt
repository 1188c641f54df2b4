pub mod Cells
pub mod Answers
pub mod Numbers
pub mod Makes
