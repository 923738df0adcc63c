pub mod Hand
pub mod Fault
pub mod Named
