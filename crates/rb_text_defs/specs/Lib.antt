pub mod Words
pub mod Form
pub mod Script
pub mod Legal
pub mod Report
pub mod LogText
