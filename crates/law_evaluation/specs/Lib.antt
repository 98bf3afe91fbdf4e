pub mod Acts
pub mod Evaluation
pub mod Arrivals
