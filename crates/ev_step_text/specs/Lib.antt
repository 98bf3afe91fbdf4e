pub mod Accounts
pub mod Spelled
