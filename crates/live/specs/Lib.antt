pub mod Prepare
pub mod LiveRight
pub mod Promises
