pub mod Ended
pub mod Lemmas
pub mod Opened
