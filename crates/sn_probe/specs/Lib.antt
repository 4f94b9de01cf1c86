pub mod Probes
pub mod Tally
