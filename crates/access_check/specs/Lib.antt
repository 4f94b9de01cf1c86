pub mod Accesses
pub mod Legal
pub mod Projections
pub mod Verdicts
pub mod Blocks
pub mod Executions
