pub mod Printed
pub mod Endings
pub mod Values
pub mod Statuses
pub mod Lines
pub mod Inner
