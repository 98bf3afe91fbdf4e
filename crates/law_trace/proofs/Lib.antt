pub mod Trace
pub mod UsesSeen
pub mod Shown
pub mod Told
pub mod Seen
