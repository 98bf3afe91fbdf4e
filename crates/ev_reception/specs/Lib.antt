pub mod Asks
pub mod Receiving
