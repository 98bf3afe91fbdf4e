pub mod FirstLemmas
pub mod WideLemmas
pub mod BlankLemmas
pub mod EndLemmas
