pub mod Content
pub mod Decoder
pub mod Epoch
pub mod Fault
pub mod Next
pub mod Ready
pub mod Taking
pub mod EpochStatus
