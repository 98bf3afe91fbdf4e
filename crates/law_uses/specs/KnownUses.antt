pub mod Told
pub mod KnownUses
