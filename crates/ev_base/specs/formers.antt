pub mod seq
