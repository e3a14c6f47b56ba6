pub mod Worked
pub mod Machined
