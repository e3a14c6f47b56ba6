pub mod Text
pub mod Example
pub mod Writing
pub mod Promises
