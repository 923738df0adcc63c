pub mod Payloads
pub mod Sizes
pub mod Steps
pub mod Whole
