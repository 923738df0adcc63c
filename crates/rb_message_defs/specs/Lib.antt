pub mod Message
pub mod Received
pub mod Taken
pub mod Nodes
