pub mod History
pub mod Parts
pub mod Inner
