pub mod Served
pub mod Adopted
pub mod Ended
pub mod NextRun
pub mod History
pub mod Acting
pub mod Holding
pub mod Inner
