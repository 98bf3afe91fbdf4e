pub mod EvalMaps
pub mod Stands
pub mod Renaming
pub mod Example
pub mod Alone
