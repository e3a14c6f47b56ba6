pub mod Demand
pub mod ThreeTexts
pub mod AnyState
pub mod Laws
pub mod Asked
pub mod Numbers
pub mod WrittenBack
