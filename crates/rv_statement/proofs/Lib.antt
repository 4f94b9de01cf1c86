pub mod Registers
pub mod Found
