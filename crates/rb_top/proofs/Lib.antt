pub mod ReadLaws
pub mod Running
pub mod TableLaws
pub mod TakeLaws
pub mod PrintLaws
pub mod Topping
