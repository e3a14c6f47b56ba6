pub mod Valid
pub mod Values
