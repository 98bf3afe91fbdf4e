pub mod Feeds
pub mod Words
pub mod Names
pub mod Values
pub mod Kinds
pub mod Parts
pub mod Runs
