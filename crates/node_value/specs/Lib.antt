pub mod Unfold
pub mod Back
pub mod Sides
pub mod Stack
pub mod Turns
