pub mod Calls
pub mod Checked
pub mod Promises
