pub mod Marks
pub mod Notices
