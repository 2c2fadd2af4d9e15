pub mod Causes
pub mod Damage
pub mod Opening
