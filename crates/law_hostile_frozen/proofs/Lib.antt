pub mod Passing
pub mod Moves
pub mod Plays
