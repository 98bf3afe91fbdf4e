pub mod WordLemmas
pub mod AllOf
pub mod LastMark
pub mod NoteLemmas
pub mod Joined
pub mod Hexed
pub mod Printed
pub mod Spelled
