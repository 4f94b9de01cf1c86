pub mod Outside
pub mod Calls
pub mod Files
pub mod Sinks
