pub mod Eventual
pub mod Same
pub mod Layers
pub mod AtOnce
pub mod Binders
pub mod Steps
