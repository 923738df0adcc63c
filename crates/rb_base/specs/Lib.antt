pub mod Bucket
pub mod Epoch
pub mod Faults
pub mod Length
pub mod Site
