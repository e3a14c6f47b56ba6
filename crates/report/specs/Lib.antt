pub mod Example
pub mod Line
pub mod Text
