pub mod Folded
pub mod Sense
pub mod SeenLaws
pub mod Rows
pub mod Right
