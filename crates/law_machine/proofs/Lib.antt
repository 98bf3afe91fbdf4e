pub mod Natives
pub mod Machine
pub mod Run
pub mod Renamed
pub mod Costs
pub mod Halting
