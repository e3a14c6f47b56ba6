pub mod Store
pub mod Paper
pub mod Laws
pub mod Shelf
pub mod Promises
pub mod Nine
