pub mod Pieces
pub mod Longest
pub mod Writing
pub mod OnPaper
pub mod Lower
pub mod Promises
