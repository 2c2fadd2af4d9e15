mod LineLemmas
mod Numbers
mod Altered
mod Requests
mod Determined
pub mod Lemmas
