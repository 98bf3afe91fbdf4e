pub mod Spread
pub mod Mentions
pub mod Last
pub mod Chains
pub mod Walk
pub mod Over
pub mod Graph
pub mod Judge
