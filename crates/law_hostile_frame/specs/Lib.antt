pub mod Honest
pub mod Counts
pub mod Tables
pub mod Mirrors
pub mod Steps
pub mod Cuts
