pub mod Filled
pub mod Watching
