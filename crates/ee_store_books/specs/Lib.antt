pub mod Standing
pub mod Found
pub mod Seen
pub mod Causes
