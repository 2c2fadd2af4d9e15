pub mod Turns
pub mod Calls
pub mod Desks
pub mod EndToEnd
