pub mod Refusals
pub mod Goes
pub mod Draws
pub mod Pickers
pub mod Starts
pub mod Fits
pub use Rattle.run_journals.proofs.Folds
pub use Rattle.run_journals.proofs.Released
