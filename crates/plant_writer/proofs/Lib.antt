pub mod Pieces
pub mod Lower
pub mod Promises
