pub mod SidesRight
