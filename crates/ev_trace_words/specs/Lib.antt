pub mod Words
pub mod Parts
pub mod Texts
pub mod Values
pub mod Laws
