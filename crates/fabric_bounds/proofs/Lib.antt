mod Lists
mod Steps
mod Rows
mod Replies
mod Misses
mod Deliveries
pub mod Events
pub mod Cuts
pub mod Runs
pub mod Resumed
pub mod Numbers
mod Finds
pub use Rattle.fabric_coherence.proofs.InFlight
pub use Rattle.fabric_coherence.proofs.Recovery
pub use Rattle.fabric_coherence.proofs.KeptResumed
pub use Rattle.fabric_coherence.proofs.Finished
pub use Rattle.fabric_coherence.proofs.KeptStart
pub use Rattle.fabric_coherence.proofs.EachOutcome
pub use Rattle.fabric_coherence.proofs.Retirements
pub use Rattle.fabric_coherence.proofs.KeptEvents
pub use Rattle.fabric_coherence.proofs.Told
pub use Rattle.fabric_coherence.proofs.NodesStay
pub use Rattle.fabric_coherence.proofs.Holders
pub use Rattle.fabric_coherence.proofs.RowsMet
