mod Images
mod Orders
mod OneContent
mod KeptTexts
mod DaysInRange
mod ByKeys
mod Causes
mod DaySums
mod HandedOn
mod InTurn
mod Transactions
pub mod Lemmas
