pub mod Tokens
mod Levels
pub mod Written
