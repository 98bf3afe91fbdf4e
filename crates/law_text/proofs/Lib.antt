pub mod Text
pub mod RunTexts
