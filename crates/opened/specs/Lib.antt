pub mod Lent
pub mod Opened
pub mod Fits
