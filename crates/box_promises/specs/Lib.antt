pub mod Typed
pub mod Promises
pub mod Beside
pub mod Days
