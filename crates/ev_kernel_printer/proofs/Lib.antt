pub mod FormLemmas
pub mod Words
pub mod WalkLemmas
pub mod Weights
pub mod ItemLemmas
