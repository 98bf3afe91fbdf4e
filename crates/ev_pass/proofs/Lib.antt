pub mod Draws
pub mod Ends
pub mod Packs
pub mod Ways
pub mod Stands
pub mod Rooms
pub mod Machine
pub mod Delivers
