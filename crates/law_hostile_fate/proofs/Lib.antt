pub mod Account
pub mod Ends
