pub mod Found
pub mod Texts
pub mod Runs
pub mod Scripts
