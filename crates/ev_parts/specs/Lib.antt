pub mod Items
pub mod Whole
