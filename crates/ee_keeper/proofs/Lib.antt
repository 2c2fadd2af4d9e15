mod Causes
pub mod Lemmas
