pub mod Stages
pub mod Places
