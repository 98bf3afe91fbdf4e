pub mod Moves
pub mod Plays
