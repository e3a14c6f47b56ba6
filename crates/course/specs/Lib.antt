pub mod Laid
pub mod Course
pub mod Lamps
pub mod Lent
