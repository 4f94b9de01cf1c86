pub mod Fronts
pub mod Least
pub mod Folds
