pub mod Money
pub mod Seals
pub mod Answers
pub mod Laws
pub mod Orders
pub mod Telling
