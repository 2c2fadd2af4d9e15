pub mod Opening
pub mod Reading
pub mod Shown
pub mod Whole
