pub mod Cells
pub mod Numbers
pub mod Found
pub mod Complete
pub mod Sound
pub mod Words
