pub mod Groups
