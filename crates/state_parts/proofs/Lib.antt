pub mod Changes
pub mod Others
