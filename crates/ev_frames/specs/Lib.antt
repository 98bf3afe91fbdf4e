pub mod Leaves
pub mod Rest
