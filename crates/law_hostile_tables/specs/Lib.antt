pub mod Positions
pub mod Steps
pub mod Telling
pub mod Tables
