pub mod Bonds
pub mod Notes
pub mod Rows
pub mod Sheets
pub mod Inner
