pub mod Day
pub mod Turns
