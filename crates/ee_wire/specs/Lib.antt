pub mod Heads
pub mod Answers
