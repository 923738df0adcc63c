pub mod Bodies
pub mod Order
pub mod Counts
pub mod Mapped
pub mod Transactions
