pub mod Keeping
pub mod Scanning
pub mod Operators
pub mod Fronts
pub mod Boundaries
pub mod Splitting
