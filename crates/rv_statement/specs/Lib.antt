pub mod Names
pub mod Lines
pub mod Operands
pub mod Forms
pub mod Reading
pub mod Seen
