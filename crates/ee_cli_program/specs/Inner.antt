pub mod Statuses
pub mod Told
pub mod Stores
