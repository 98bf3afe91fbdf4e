pub mod Kept
pub mod Past
pub mod Sheet
pub mod Answers
pub mod Telling
pub mod Laws
