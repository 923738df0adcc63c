pub mod Memory
pub mod Prefix
