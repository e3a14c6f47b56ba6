pub mod Results
pub mod Paper
pub mod Chain
