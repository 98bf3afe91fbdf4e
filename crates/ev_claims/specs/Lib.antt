pub mod Gifts
pub mod Telling
pub mod Statements
