mod Walks
mod InOrder
mod Entries
mod Counts
mod SortedRows
mod LinePays
mod Keys
mod PaidRows
mod Places
mod SoundParts
mod Making
pub mod Lemmas
