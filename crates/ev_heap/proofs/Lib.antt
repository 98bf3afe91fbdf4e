pub mod HeightLemmas
pub mod Behind
pub mod Room
pub mod Prefix
pub mod Next
