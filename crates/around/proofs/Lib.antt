pub mod Places
pub mod Round
pub mod Rows
pub mod Right
pub mod AlongLaws
