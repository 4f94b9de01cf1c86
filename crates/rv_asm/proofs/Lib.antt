pub mod Lines
pub mod Passes
