pub mod Ops
pub mod Shape
pub mod Turns
pub mod Whole
