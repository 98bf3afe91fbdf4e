pub mod Agree
pub mod Came
pub mod New
pub mod Passing
