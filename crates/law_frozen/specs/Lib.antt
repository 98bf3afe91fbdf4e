pub mod Frozen
pub mod Laws
pub mod Runs
pub mod Receiving
