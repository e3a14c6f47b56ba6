pub mod Searches
pub mod Promises
pub mod Nine
