pub mod Begun
pub mod FirstOf
