pub mod Blocks
pub mod States
pub mod Led
pub mod Turn
