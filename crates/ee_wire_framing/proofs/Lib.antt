mod Heads
mod Cuts
mod WholeLines
mod Tested
mod More
mod Messages
mod Calls
mod OneSplit
mod FieldSteps
pub mod Lemmas
