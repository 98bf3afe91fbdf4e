pub mod Ints
pub mod Numerals
pub mod Message
