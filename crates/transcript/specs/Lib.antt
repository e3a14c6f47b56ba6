pub mod End
pub mod Place
pub mod Said
