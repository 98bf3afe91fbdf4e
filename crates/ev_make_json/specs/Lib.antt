pub mod Data
pub mod Read
