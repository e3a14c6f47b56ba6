pub mod Causes
pub mod Judged
pub mod OnPaper
