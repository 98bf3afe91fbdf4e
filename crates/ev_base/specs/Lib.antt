pub mod SafeScope
pub mod formers
pub mod Keys
