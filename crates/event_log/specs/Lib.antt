pub mod Legal
pub mod Lead
pub mod Line
pub mod Log
pub mod Read
pub mod Promises
pub mod Forms
pub mod Example
