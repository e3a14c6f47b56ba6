pub mod Sensors
pub mod Fewer
