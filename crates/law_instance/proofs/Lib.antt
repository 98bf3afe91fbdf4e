pub mod Acts
pub mod Anew
pub mod Told
pub mod Received
pub mod Whole
pub mod Shown
pub mod Texts
pub mod Corollaries
