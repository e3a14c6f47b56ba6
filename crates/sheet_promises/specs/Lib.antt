pub mod HandedBack
pub mod OneAnswer
