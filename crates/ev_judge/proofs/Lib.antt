pub mod Positions
pub mod Items
pub mod Listed
