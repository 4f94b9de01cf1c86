pub mod Told
pub mod Left
pub mod Moments
pub mod Ended
pub mod Replayed
pub mod Begun
