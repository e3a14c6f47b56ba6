pub mod Through
pub mod Turns
