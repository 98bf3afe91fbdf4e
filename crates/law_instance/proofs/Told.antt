pub mod Kept
pub mod Rests
pub mod Steps
pub mod Keeps
pub mod Found
pub mod Runs
