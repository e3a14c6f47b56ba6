pub mod Made
pub mod Tried
