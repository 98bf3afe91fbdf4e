pub mod Alike
pub mod Led
pub mod Quiet
pub mod Settling
pub mod Severed
pub mod Wholes
