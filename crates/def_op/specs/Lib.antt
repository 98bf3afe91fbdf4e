pub mod Numbers
pub mod Frames
pub mod Views
pub mod Reading
pub mod Items
