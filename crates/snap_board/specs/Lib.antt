pub mod Fronts
pub mod Keeps
pub mod Posts
pub mod Sights
pub mod Snap
pub mod Watching
