pub mod News
pub mod Opens
