pub mod Answers
pub mod Left
pub mod Rows
pub mod WriterState
