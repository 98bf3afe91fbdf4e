pub mod Notes
pub mod Codes
pub mod Acts
pub mod Measuring
pub mod Passing
pub mod Delivering
pub mod Reading
pub mod Statements
