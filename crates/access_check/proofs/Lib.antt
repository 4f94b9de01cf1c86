pub mod Runs
pub mod Lasts
pub mod Starts
pub mod Traces
pub mod Projected
pub mod Fitting
