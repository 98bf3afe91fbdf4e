pub mod Meanings
pub mod Plainness
pub mod Renumbered
