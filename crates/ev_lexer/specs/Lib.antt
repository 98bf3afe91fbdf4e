pub mod Words
pub mod Faults
pub mod Pieces
pub mod LineEnds
pub mod Lexed
pub mod Examples
