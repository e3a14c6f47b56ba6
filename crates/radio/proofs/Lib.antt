pub mod PiecesLaws
pub mod Turning
pub mod Ending
pub mod Quiet
