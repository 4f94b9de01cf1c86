pub mod Parts
pub mod Codes
pub mod Table
pub mod Decoded
