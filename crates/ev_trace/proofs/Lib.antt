pub mod NamingLemmas
pub mod ReadingLemmas
