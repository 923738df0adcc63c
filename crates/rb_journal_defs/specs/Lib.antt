pub mod Journal
pub mod Body
pub mod Transaction
pub mod Table
pub mod Clock
pub mod Order
pub mod Counts
