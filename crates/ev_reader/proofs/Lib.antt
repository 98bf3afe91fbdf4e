pub mod Names
pub mod TaskLemmas
pub mod Weights
mod Rows
