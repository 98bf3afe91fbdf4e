pub mod Gives
pub mod DigitsView
pub mod Decoded
