pub mod Beside
pub mod FromTexts
