pub mod Led
pub mod Wholes
