pub mod Draws
pub mod GiftLemmas
