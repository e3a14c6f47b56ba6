pub mod Graph
pub mod Joining
pub mod Places
pub mod Ranking
pub mod Scan
pub mod Search
