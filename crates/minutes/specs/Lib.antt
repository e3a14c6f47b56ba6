pub mod Minutes
