pub mod Printing
pub mod OnPaper
