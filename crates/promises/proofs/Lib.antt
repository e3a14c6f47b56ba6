pub mod AnyState
pub mod Asked
pub mod OneAnswer
