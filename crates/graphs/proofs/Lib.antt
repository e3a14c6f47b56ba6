pub mod Sweep
pub mod Fair
pub mod Lasso
