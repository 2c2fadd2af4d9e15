pub mod Checks
pub mod Days
pub mod Marks
