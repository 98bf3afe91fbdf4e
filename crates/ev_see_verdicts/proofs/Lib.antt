pub mod Overtaken
pub mod Lines
