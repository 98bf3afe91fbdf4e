pub mod Heard
pub mod Seen
