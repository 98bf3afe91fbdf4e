pub mod ReadScripts
pub mod ReadTexts
pub mod ReadUses
pub mod ReadOrder
pub mod Generated
