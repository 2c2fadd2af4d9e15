pub mod Asking
pub mod Forms
pub mod Making
pub mod Migrating
