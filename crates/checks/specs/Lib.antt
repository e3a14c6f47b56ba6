pub mod Checks
pub mod Exactly
pub mod Input
