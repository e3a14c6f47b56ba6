pub mod Around
pub mod Fill
pub mod Turns
pub mod Along
pub mod Sense
