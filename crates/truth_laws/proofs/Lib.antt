pub mod Stands
pub mod Order
pub mod Numbers
pub mod Occurs
pub mod Shown
pub mod Entries
pub mod TablesRight
