mod Amounts
mod Ascii
mod Back
mod Same
pub mod Lemmas
mod Counts
mod Pieces
mod Fronts
