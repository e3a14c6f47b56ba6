pub mod Choice
pub mod LinesChoice
