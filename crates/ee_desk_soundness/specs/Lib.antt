pub mod Parts
pub mod Checks
pub mod Marks
pub mod Days
pub mod Faults
pub mod Made
pub mod Inner
