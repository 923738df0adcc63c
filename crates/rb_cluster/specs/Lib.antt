pub mod Outcome
pub mod Rows
pub mod Tally
pub mod Net
pub mod Cluster
pub mod Plays
pub mod Taken
pub mod Halt
