pub mod Telling
pub mod Following
pub mod Leads
pub mod Runs
pub mod Found
pub mod Marks
pub mod Knowing
