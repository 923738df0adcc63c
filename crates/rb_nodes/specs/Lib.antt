pub mod Nodes
pub mod Outbox
pub mod Net
