pub mod Values
pub mod OwnPage
pub mod Written
