pub mod Asking
pub mod Inner
