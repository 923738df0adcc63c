pub mod Bitmap
pub mod Columns
pub mod Fields
