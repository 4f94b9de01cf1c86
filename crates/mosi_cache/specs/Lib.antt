pub mod Frames
pub mod Controller
pub mod Rows
pub mod Probe
pub mod Machine
pub mod Restored
pub mod Unshared
pub mod PartsFit
