pub mod LifeLemmas
