pub mod Connectivity
pub mod Uses
pub mod Running
pub mod ShownApart
pub mod SettledApart
pub mod KnownUses
