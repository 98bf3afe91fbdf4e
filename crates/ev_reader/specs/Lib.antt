pub mod Bindings
pub mod Scopes
pub mod Tasks
pub mod Answers
pub mod Faults
pub mod Stages
pub mod Program
