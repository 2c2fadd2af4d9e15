mod Payable
mod Deciding
mod Entries
mod Picked
mod SheetRows
pub mod Lemmas
