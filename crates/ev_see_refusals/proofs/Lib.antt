pub mod TableLemmas
pub mod ValueLemmas
pub mod Walking
