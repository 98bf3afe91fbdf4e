pub mod Arrived
pub mod Keys
pub mod Low
pub mod Marked
pub mod Same
pub mod Steps
