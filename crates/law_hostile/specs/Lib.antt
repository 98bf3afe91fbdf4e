pub mod Hostile
pub mod Entering
