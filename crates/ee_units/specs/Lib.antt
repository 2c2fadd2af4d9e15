pub mod Limits
pub mod Calendar
pub mod Spelling
pub mod Denoms
pub mod Faults
pub mod Texts
pub mod Grammar
