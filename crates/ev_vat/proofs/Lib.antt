pub mod Fresh
pub mod Turns
pub mod Arrivals
mod Closed
pub mod Starts
pub mod Steps
mod Rooms
pub mod Worlds
pub mod MemberSteps
pub mod Readies
pub mod Turning
pub mod MemberStarts
pub mod Heard
pub mod Taking
pub mod Arriving
