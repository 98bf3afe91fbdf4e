pub mod Adding
pub mod Coming
pub mod Came
pub mod Runs
