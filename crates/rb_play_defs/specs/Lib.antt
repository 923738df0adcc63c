pub mod Step
pub mod Sound
pub mod Fitting
pub mod Play
pub mod UnfinishedLog
pub mod Point
