pub mod Rounding
pub mod Chain
pub mod Value
pub mod Open
pub mod Fault
pub mod Payment
pub mod Inner
