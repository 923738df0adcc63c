mod Feeding
mod Numbers
mod Places
mod Taking
mod Between
