pub mod Unique
pub mod Rounds
pub mod Joined
pub mod Fixed
pub mod Grown
pub mod Explored
pub mod Agrees
pub mod Made
