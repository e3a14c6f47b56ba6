pub mod Prints
pub mod Promises
