pub mod Causes
pub mod Delivered
pub mod Known
pub mod Written
