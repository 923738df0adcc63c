pub mod Binlog
