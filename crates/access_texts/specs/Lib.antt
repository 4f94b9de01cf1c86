pub mod Lines
pub mod Fitting
pub mod Lists
pub mod Verdicts
