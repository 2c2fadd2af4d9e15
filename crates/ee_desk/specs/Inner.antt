pub mod Added
pub mod Kept
pub mod Marks
pub mod Parts
