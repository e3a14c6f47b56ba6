pub mod Tree
pub mod Grows
pub mod Begins
pub mod Counts
pub mod Apart
pub mod Words
pub mod Told
