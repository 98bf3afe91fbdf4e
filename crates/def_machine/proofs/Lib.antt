mod Examples
pub mod Keys
