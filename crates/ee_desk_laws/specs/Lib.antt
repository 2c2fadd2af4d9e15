pub mod Events
pub mod Attempts
pub mod Stops
pub mod Ties
pub mod Tellers
pub mod Runs
