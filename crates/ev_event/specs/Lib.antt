pub mod Kinds
pub mod Pending
