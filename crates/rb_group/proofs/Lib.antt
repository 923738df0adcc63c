mod After
pub mod Lists
mod Holding
mod Standing
pub mod Covering
mod Steps
pub mod Beginning
mod Owners
