mod Rows
pub mod ValueLemmas
pub mod WordLemmas
