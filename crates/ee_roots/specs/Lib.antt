pub mod Products
pub mod Roots
pub mod Amounts
