pub mod Hearing
pub mod Received
pub mod Questions
pub mod Exported
