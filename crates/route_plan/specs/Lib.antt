pub mod Grid
pub mod Sizes
pub mod Distances
pub mod Tables
pub mod Paths
pub mod Routes
