pub mod Laws
pub mod Moments
pub mod Puts
pub mod Played
pub mod Ended
pub mod SameJob
pub use Rattle.state_lines.proofs.Lists
