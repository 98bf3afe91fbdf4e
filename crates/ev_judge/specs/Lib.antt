pub mod Views
pub mod Named
