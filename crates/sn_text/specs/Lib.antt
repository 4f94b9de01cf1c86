pub mod Text
pub mod Digits
pub mod Items
pub mod Script
pub mod Trace
pub mod Written
