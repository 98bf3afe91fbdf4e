pub mod Beginnings
pub mod Carrying
pub mod Once
pub mod Owning
pub mod Reaching
pub mod Telling
