pub mod Honest
pub mod Corollaries
pub mod Rows
