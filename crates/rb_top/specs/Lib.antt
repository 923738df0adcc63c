pub mod Program
pub mod ReadLog
pub mod ReadLoop
pub mod Run
