pub mod Entries
pub mod Laws
pub mod LastPlace
pub mod Linked
pub mod Indexed
pub mod ClosedUp
