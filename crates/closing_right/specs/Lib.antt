pub mod DayEnd
pub mod Plain
pub mod Promises
