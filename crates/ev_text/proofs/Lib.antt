pub mod QuotingLemmas
pub mod CharacterLemmas
pub mod UnquotingLemmas
pub mod RoundTrip
mod Ended
pub mod Parsed
pub mod LineTexts
