pub mod Promises
pub mod Forms
