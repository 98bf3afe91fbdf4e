pub mod Placed
pub mod Brought
pub mod Sends
pub mod Steps
pub mod Passes
pub mod Known
pub mod Apart
pub mod Whole
