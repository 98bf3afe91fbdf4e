pub mod Puts
pub mod Telling
pub mod Settling
pub mod Arriving
pub mod Steps
pub mod Runs
pub mod News
pub mod Opens
