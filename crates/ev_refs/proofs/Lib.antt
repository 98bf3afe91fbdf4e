pub mod Follows
pub mod Machine
pub mod Changing
pub mod Chains
pub mod Leads
pub mod Reaches
pub mod Tells
