pub mod Tellings
pub mod Notes
pub mod Wholes
pub mod Example
pub mod Views
