pub mod OrderRows
