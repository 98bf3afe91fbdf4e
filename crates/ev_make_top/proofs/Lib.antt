pub mod ReadLemmas
pub mod DueLemmas
pub mod PayLemmas
