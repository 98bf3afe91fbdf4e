pub mod Placing
pub mod Telling
pub mod Reaching
pub mod Whole
