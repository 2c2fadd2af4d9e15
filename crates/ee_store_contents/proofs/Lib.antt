mod StoredRows
mod ReadBack
mod RatesBack
mod RowsOfBooks
mod KeptRows
mod Founded
mod KeptTables
mod FoundParts
mod Readable
mod Becoming
pub mod Lemmas
