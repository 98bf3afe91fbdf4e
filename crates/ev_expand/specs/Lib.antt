pub mod Marked
pub mod Table
pub mod Expanded
pub mod Faults
