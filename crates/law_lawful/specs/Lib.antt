pub mod Claims
pub mod Tables
pub mod Lawful
pub mod Halted
