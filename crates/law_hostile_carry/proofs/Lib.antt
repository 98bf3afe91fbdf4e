pub mod Settles
pub mod Weights
pub mod Borne
pub mod Carries
pub mod Sound
