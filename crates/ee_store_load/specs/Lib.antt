pub mod Reading
pub mod Shown
pub mod Whole
pub mod Opening
pub mod Testing
pub mod Inner
