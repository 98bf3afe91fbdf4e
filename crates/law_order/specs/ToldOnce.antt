pub mod Told
pub mod New
pub mod Opened
