pub mod Arrivals
pub mod Statements
