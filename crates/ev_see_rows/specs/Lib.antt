pub mod Lives
pub mod Wide
