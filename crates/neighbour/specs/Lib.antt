pub mod Report
pub mod Judged
