mod Words
pub mod Given
