pub mod Told
pub mod Stamping
