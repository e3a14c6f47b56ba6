pub mod Sheet
pub mod Afresh
pub mod Example
