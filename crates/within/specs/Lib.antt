pub mod Within
pub mod Seen
pub mod Props
pub mod Turn
pub mod Turns
