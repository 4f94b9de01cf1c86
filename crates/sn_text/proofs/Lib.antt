pub mod Digits
pub mod Texts
pub mod Reading
pub mod Printed
pub mod Lines
pub mod Written
pub mod Comments
