pub mod Grammar
pub mod Postfix
pub mod Value
pub mod Print
pub mod Numbered
pub mod Bytes
pub mod Reader
pub mod Scan
