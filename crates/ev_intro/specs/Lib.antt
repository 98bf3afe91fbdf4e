pub mod Word
pub mod Gift
pub mod Message
