pub mod Folded
pub mod Stored
