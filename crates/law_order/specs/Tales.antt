pub mod Resting
pub mod Middle
pub mod Tales
pub mod Entries
