pub mod Places
pub mod Changes
pub mod Starts
pub mod Tellings
