pub mod Actions
pub mod Connections
