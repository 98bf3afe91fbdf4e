pub mod Severed
