pub mod Inside
pub mod Kinds
pub mod Statements
