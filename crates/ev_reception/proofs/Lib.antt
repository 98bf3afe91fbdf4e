pub mod Asked
pub mod Judged
pub mod Nothing
pub mod Received
