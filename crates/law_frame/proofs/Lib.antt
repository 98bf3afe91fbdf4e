pub mod Frame
pub mod Heard
pub mod Stopping
pub mod Local
pub mod Steady
