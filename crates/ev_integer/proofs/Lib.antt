pub mod DigitLemmas
pub mod Ranges
pub mod Powers
