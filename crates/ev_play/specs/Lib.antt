pub mod Doings
pub mod Hostile
pub mod Play
pub mod Rules
pub mod Quiet
