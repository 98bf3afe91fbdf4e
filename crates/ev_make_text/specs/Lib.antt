pub mod Reads
pub mod Bars
