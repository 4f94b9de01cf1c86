pub mod Mnemonics
pub mod Attempts
pub mod Stepping
pub mod RowPieces
