pub mod Taken
pub mod EachStep
pub mod Refusals
