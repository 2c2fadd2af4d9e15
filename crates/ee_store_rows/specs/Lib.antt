pub mod Rows
pub mod Lines
