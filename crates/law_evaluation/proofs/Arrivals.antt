pub mod Leaving
pub mod Arrives
pub mod Learns
pub mod Receives
pub mod Machine
