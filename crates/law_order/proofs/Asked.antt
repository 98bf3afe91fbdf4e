pub mod Weighs
pub mod Arrivals
pub mod Viewing
pub mod Sums
pub mod Asked
pub mod AskRuns
