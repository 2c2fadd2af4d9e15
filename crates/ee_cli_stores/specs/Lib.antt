pub mod Faults
pub mod Lines
pub mod Tested
pub mod Running
pub mod Bank
pub mod Inner
