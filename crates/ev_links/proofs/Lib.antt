pub mod Among
pub mod Spreading
pub mod Chaining
pub mod Lines
pub mod Planning
