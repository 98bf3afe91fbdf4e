pub mod WalkLoop
pub mod Agree
pub mod WholeLemmas
pub mod Shorter
pub mod Order
