pub mod Lookup
pub mod Columns
pub mod Shape
