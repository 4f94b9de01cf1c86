pub mod Home
pub mod Receipt
pub mod Serving
pub mod Machine
pub mod Open
pub mod Restored
pub mod Touched
