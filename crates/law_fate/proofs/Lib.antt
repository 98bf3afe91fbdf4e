pub mod Name
pub mod Fates
