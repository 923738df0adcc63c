pub mod Action
pub mod Held
pub mod Fault
pub mod Pair
