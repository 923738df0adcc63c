pub mod Judged
pub mod NamedRows
