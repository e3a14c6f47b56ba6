pub mod Fit
pub mod Image
pub mod Back
pub mod Leading
