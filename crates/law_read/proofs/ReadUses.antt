pub mod Judged
pub mod Held
