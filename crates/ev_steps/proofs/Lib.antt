pub mod Lifts
mod Opens
mod Alikes
pub mod Binding
pub mod Bound
pub mod Depth
