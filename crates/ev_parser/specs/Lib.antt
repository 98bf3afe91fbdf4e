pub mod Draft
pub mod Parsed
pub mod Stacks
pub mod Surface
pub mod Sweet
