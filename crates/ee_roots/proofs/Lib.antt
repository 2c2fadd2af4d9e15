mod Directed
mod Bounds
pub mod Lemmas
