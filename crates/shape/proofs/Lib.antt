pub mod Inserted
pub mod Found
