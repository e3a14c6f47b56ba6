pub mod Part
pub mod Asked
pub mod Paper
pub mod Answers
pub mod Promises
