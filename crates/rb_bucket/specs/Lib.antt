pub mod Bucket
