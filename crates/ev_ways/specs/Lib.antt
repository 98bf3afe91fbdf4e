pub mod Way
pub mod Streams
pub mod LinkStatements
pub mod Labels
pub mod Rows
pub mod Standing
pub mod Telling
pub mod Statements
