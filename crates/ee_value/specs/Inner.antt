pub mod Open
pub mod Payment
