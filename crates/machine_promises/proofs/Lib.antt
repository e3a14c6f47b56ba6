pub mod LookUps
pub mod Many
