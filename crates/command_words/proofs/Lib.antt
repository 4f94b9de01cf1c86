pub mod Table
pub mod Taken
pub mod Rules
