pub mod Contents
pub mod Packed
pub mod Told
pub mod Verbs
