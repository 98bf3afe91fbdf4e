pub mod Json
pub mod Head
pub mod Vats
pub mod Schedule
pub mod Script
pub mod Rules
pub mod Faults
