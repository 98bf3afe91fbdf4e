pub mod Held
pub mod Acts
pub mod Coercion
pub mod Takings
pub mod Reading
pub mod Holding
pub mod Sound
pub mod Forms
