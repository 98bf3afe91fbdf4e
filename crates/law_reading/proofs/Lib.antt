pub mod Grammar
pub mod Reading
pub mod Expansion
pub mod Sized
