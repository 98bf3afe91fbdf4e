pub mod Placing
pub mod Renamed
pub mod ReadAgain
