pub mod Pieces
pub mod Played
pub mod Shown
