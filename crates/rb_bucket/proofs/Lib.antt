mod Forgetting
mod Keeping
mod Resending
