pub mod Placed
pub mod Correct
pub mod Reports
pub mod Wrong
pub mod Every
