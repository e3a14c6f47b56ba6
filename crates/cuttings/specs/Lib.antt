pub mod Cut
pub mod Scraps
