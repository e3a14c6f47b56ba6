pub mod Right
pub mod Chains
