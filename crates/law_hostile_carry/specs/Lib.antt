pub mod Settles
pub mod Carries
pub mod Sound
