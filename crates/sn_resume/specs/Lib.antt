pub mod Saving
pub mod Going
