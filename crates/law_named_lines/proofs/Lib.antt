pub mod Rekeyed
pub mod Alike
pub mod Keeping
pub mod Shown
