pub mod Shapes
pub mod Fitting
pub mod Laws
pub mod Expansions
pub mod Tokens
