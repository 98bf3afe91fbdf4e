pub mod Whole
pub mod Alike
pub mod Inside
pub mod Pieces
pub mod Filled
pub mod Arena
pub mod Answered
pub mod Readings
