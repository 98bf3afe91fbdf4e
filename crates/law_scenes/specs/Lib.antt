pub mod Doings
