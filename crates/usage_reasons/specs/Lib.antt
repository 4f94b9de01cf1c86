pub mod Table
pub mod Words
pub mod Faults
pub mod Seen
pub mod Texts
