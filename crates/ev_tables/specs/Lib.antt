pub mod Thing
pub mod SameLaws
pub mod Table
pub mod Message
pub mod Standing
pub mod Numbering
pub mod Statements
