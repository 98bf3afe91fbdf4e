pub mod Begins
pub mod Coercing
pub mod Ending
pub mod Guarding
pub mod Looping
pub mod Patterning
