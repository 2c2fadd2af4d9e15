pub mod Applicable
pub mod NewRows
pub mod Noted
