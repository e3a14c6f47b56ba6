pub mod Round
pub mod Lives
pub mod Rule
pub mod Means
pub mod Shown
pub mod Witness
pub mod Log
