pub mod Letting
pub mod Opening
pub mod Cuts
pub mod Example
