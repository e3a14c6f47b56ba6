pub mod Sent
pub mod Walk
pub mod ReadBack
pub mod ReportForm
pub mod Reading
pub mod Stages
pub mod Local
