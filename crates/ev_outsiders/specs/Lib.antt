pub mod Counting
pub mod Statements
