pub mod Form
pub mod States
