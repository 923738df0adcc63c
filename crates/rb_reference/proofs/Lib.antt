pub mod Growing
pub mod Room
pub mod Rows
pub mod Examples
