pub mod Reading
pub mod Paper
pub mod Checks
pub mod Known
