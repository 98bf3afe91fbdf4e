pub mod Unsent
pub mod Small
