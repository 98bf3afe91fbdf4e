pub mod Quoting
pub mod Keywords
