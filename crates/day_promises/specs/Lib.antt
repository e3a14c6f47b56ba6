pub mod OneAnswer
pub mod Longest
