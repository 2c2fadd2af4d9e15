pub mod Answer
pub mod Options
