pub mod Leaving
pub mod Changing
pub mod Performs
pub mod Ways
pub mod Sends
pub mod Reacts
pub mod Closes
