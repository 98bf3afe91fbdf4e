pub mod Plays
pub mod Statements
