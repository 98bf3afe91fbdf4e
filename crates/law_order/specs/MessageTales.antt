pub mod Reorder
pub mod Tales
