pub mod Agrees
pub mod Introduction
pub mod Stops
