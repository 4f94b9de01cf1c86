pub mod Nets
pub mod Ordered
