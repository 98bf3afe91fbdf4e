pub mod BadLemmas
