pub mod Known
pub mod Causes
pub mod Inner
