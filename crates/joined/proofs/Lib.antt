pub mod Ranges
pub mod Parts
