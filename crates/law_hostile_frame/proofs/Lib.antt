pub mod Acts
pub mod Whole
pub mod Counts
pub mod Steps
pub mod Cuts
pub mod Malformed
pub mod Starts
