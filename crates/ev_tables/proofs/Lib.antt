pub mod Same
pub mod Keys
pub mod NumberedPlaces
pub mod Described
pub mod Kept
pub mod Numbered
