pub mod Bytes
pub mod Writes
