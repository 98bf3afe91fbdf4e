mod Loops
pub mod WritingMachine
pub mod Puts
pub mod Lists
pub mod PeerSights
pub mod Stays
pub mod Writes
pub mod Ends
pub mod Agreement
mod Positions
mod LearntLemmas
mod Listing
pub mod HearingMachine
mod Taken
mod Sights
pub mod TakenIn
pub mod Fitting
