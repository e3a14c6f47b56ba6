pub mod Positions
pub mod Shown
pub mod Tests
pub mod First
pub mod Right
pub mod Checked
pub mod Turns
