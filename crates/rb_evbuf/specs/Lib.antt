pub mod Buffer
pub mod Epoch
pub mod Gathered
