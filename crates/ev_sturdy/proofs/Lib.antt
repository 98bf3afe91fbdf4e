pub mod Objects
pub mod Past
pub mod Broken
pub mod Shows
mod Earlier
mod Turns
pub mod Reached
