pub mod Numerals
pub mod Switches
