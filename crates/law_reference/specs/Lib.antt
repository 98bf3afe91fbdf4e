pub mod Reference
pub mod Gift
pub mod OwnWaits
