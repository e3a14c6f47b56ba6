pub mod Run
pub mod WalkRight
pub mod Calls
pub mod OnPaper
