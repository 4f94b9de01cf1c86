pub mod Parted
pub mod Told
pub mod Walked
pub mod Replayed
pub mod Counted
pub mod ReadBack
pub mod InForm
pub mod Judged
