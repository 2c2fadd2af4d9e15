pub mod Data
pub mod Texts
pub mod Ranges
pub mod Reading
pub mod Writing
pub mod Given
pub mod Inner
