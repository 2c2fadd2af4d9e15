mod Rounding
mod Extensions
mod Starts
mod Settled
mod OpenAges
mod Accruals
mod FirstOpen
pub mod Lemmas
