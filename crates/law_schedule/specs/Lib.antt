pub mod Scripts
pub mod Schedules
