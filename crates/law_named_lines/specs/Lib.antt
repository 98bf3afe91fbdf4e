pub mod Gifts
pub mod Statements
