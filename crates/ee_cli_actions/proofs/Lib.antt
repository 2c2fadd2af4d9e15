pub mod Connections
mod Devices
pub mod Lemmas
