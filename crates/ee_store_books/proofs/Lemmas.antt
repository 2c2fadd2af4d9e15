-- Lemmas that the proofs of crates above use.
pub mod Contents
pub mod Lookups
