pub mod Radio
pub mod Pieces
pub mod Kept
pub mod Laws
