pub mod Facts
pub mod Settled
pub mod Running
pub mod Resting
pub mod Runs
