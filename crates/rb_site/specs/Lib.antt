pub mod Site
pub mod Stepped
