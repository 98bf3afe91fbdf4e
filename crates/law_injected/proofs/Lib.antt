pub mod HostileReached
pub mod HostileKept
