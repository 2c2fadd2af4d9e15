mod Elements
mod Survival
mod Retries
mod Leaving
mod Attempts
mod Served
mod Lists
mod Classes
mod OneTeller
mod Merges
mod DayEnd
mod InTurn
pub mod Lemmas
