mod ReadValues
pub mod Lemmas
