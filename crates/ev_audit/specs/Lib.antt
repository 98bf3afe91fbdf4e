pub mod Views
pub mod Asks
pub mod Stamps
pub mod Frozen
