pub mod Messages
pub mod Made
