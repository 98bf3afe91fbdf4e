pub mod RunKeeps
pub mod RunLaws
pub mod BreakRuns
pub mod Honest
pub mod Told
pub mod Entries
