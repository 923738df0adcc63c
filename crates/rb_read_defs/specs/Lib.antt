pub mod Reading
pub mod Events
pub mod Rows
pub mod Stream
pub mod Worked
pub mod Readable
