pub mod Debts
pub mod Ways
pub mod Written
pub mod Rests
pub mod Before
pub mod Knots
pub mod Legs
pub mod Shows
