pub mod Plain
pub mod Texts
pub mod Keys
pub mod Entries
pub mod Acceptance
