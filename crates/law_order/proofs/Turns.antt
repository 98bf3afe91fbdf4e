pub mod OpenRuns
pub mod Own
pub mod Resolvers
pub mod Same
pub mod TurnRuns
pub mod Turns
