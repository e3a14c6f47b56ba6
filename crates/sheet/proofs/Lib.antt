pub mod Turn
pub mod ValueLaws
pub mod Read
pub mod Reached
pub mod Promises
pub mod Where
