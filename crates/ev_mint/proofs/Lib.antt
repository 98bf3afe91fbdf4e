pub mod Sound
pub mod Adding
mod Turns
