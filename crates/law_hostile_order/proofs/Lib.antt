pub mod Strayings
pub mod Honest
