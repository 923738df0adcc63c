pub mod Table
pub mod Tables
pub mod Left
