pub mod Afresh
pub mod Calls
pub mod Code
pub mod Right
