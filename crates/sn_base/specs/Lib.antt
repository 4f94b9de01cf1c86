pub mod Nodes
pub mod Config
pub mod Rules
pub mod Blocks
pub mod Image
pub mod Events
pub mod Entries
