pub mod Exactly
pub mod Faults
pub mod FromReport
