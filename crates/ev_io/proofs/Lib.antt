pub mod PayLemmas
