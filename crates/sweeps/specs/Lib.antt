pub mod Sweeps
pub mod Scan
pub mod Laws
pub mod SweepsRight
pub mod Rounds
pub mod Turns
pub mod Lives
