pub mod Gifts
pub mod Unopened
