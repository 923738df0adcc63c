pub mod Files
pub mod Joined
pub mod Sizes
pub mod Bounds
