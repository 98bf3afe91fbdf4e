pub mod Learning
pub mod Arriving
pub mod Breaking
pub mod Carried
pub mod Informing
pub mod Moved
pub mod Sending
pub mod Whole
