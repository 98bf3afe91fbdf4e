pub mod Words
pub mod Lines
pub mod Rows
pub mod Table
