mod Runs
mod Causes
mod Right
mod Turns
mod Same
mod Texts
mod Streams
mod Sizes
mod Lengths
mod Fitting
pub mod Lemmas
