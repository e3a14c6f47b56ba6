pub mod Turn
pub mod Kept
pub mod Whole
