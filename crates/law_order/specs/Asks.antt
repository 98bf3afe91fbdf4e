pub mod Asks
pub mod Shortens
