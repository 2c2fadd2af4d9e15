pub mod Forms
pub mod Making
pub mod Migrating
pub mod Faults
pub mod Inner
