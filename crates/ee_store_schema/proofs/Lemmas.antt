-- Lemmas that the proofs of crates above use.
pub mod Forms
pub mod Beginning
pub mod Faults
pub mod Causes
pub mod Desks
