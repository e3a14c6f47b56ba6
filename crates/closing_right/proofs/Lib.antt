pub mod Lines
pub mod Presumes
pub mod FromDay
