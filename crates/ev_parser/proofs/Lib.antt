pub mod Open
pub mod Turns
pub mod High
pub mod Reading
pub mod Cuts
pub mod Marks
pub mod Examples
pub mod Stacks
