pub mod Said
pub mod Received
pub mod Scenes
pub mod Real
pub mod Reached
