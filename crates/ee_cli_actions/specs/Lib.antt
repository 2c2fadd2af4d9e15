pub mod Endings
pub mod Printed
pub mod Actions
pub mod Connections
pub mod Inner
