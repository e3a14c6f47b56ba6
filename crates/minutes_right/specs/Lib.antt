pub mod DayMinutes
pub mod Shown
