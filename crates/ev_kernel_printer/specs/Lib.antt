pub mod Pieces
pub mod FreeNames
pub mod Walks
pub mod Items
pub mod Captured
