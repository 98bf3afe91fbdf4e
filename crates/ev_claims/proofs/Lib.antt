pub mod Same
pub mod Sets
pub mod Keeping
pub mod Showing
pub mod Unclaimed
