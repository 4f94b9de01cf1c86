pub mod Core
pub mod Arithmetic
pub mod Access
pub mod Step
pub mod Wanted
pub mod Flat
pub mod Execution
