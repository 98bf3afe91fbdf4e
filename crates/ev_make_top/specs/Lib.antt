pub mod Codes
pub mod Asked
pub mod Due
pub mod Paying
