pub mod Points
pub mod PartsOf
pub mod OwnNumbers
pub mod Statements
