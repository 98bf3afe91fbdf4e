pub mod Unquoting
pub mod Faults
pub mod Lines
