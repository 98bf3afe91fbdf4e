pub mod Received
pub mod Next
pub mod Runs
