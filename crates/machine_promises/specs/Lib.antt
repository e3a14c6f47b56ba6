pub mod Agrees
pub mod FewRows
pub mod InBytes
pub mod LookUps
pub mod Many
pub mod Promises
