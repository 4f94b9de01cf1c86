pub mod LoadPlan
pub mod Outcome
pub mod Call
