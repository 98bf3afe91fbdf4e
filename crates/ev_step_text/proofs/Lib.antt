pub mod AccountLemmas
pub mod SpelledLemmas
