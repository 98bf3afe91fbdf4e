pub mod Kinds
pub mod Grammar
pub mod Machine
pub mod Heights
pub mod Exact
