pub mod Driver
pub mod Turns
pub mod Found
pub mod Overview
