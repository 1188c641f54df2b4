pub mod RowLemmas
pub mod Spelt
