pub mod Label
pub mod Links
pub mod Chains
pub mod Plan
