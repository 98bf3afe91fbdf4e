pub mod Breaking
pub mod Orphans
pub mod Asks
pub mod AskTales
pub mod Shortens
