pub mod Claims
pub mod Front
