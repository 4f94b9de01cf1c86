pub mod PieceLaws
pub mod SoFar
pub mod Begun
