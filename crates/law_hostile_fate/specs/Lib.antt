pub mod Brought
pub mod Fates
