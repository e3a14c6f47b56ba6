pub mod Lasting
pub mod Settles
pub mod Node
pub mod Sound
pub mod Complete
pub mod Alive
