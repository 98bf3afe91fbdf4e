pub mod Steps
pub mod Laws
pub mod Breaks
pub mod Receiving
