pub mod Noting
pub mod FromMinutes
pub mod OneMinutes
