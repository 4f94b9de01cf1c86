pub mod Putting
pub mod Parts
pub mod Facts
pub mod Whole
