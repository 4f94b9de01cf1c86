pub mod EffectData
pub mod TaggedEffects
pub mod Tags
pub mod Cells
pub mod CellPlaces
pub mod Slots
pub mod Parts
pub mod Verdict
