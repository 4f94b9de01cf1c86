pub mod Hexadecimal
pub mod Elf
pub mod Loading
pub mod Writing
