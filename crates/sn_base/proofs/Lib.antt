pub mod Outside
pub mod Bytes
pub mod Given
pub mod LastPlace
