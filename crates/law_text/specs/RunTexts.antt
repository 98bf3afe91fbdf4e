pub mod Fitting
pub mod Spelled
pub mod Worlds
pub mod Laws
