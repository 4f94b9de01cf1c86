pub mod Lists
pub mod Registers
