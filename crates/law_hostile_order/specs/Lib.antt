pub mod Strays
pub mod Honest
