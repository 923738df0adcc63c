pub mod Files
pub mod Index
pub mod Image
pub mod Worked
