pub mod Text
pub mod Assembly
pub mod Lists
