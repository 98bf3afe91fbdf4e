pub mod Stops
pub mod Lines
