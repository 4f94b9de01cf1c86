pub mod Relations
pub mod GoneOnFrom
pub mod Bytes
pub mod Given
pub mod Values
pub mod SaidBytes
pub mod Short
