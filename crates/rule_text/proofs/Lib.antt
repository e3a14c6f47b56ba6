pub mod Judged
pub mod Answering
