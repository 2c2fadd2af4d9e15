-- Books as lists (this project's rule).
use Rattle.std.specs.Prelude.{◌≡◌, ℕ, List, Option, map}
use Rattle.std.specs.FinMap as finite
use Rattle.ee_value.specs.declared.rates.Rates.{Rates}
use Rattle.ee_value.specs.declared.rates.RateRow.{RateRow}
use Rattle.ee_calculator.specs.declared.bonds.Bond.{Bond}
use Rattle.ee_desk_model.specs.declared.replies.Batch.{Batch}
use Rattle.ee_desk_model.specs.declared.replies.Ticket.{Ticket}
use Rattle.ee_desk_model.specs.PlainBooks.{PlainBooks}
use Rattle.ee_desk_model.specs.Sound.{IsSound}

-- rates sorted by month and bonds sorted by serial number, each key once; tickets by number, batches by day
pub record Parts : Type 0 where
  pub rates : List RateRow
  pub bonds : List Bond
  pub day : Option ℕ  -- the open day
  pub last_day : Option ℕ  -- the last closed day
  pub tickets : List Ticket
  pub batches : List Batch

abbrev pub row_of_entry : ℕ × Rates → RateRow
row_of_entry entry = record { from = entry.0; rates = entry.1 }

-- the parts of books: rates sorted by month, bonds sorted by serial number
abbrev pub parts_of : PlainBooks → Parts
parts_of books = record {
  rates = map row_of_entry (finite.entries books.rates);
  bonds = finite.values books.bonds;
  day = books.day;
  last_day = books.last_day;
  tickets = books.tickets;
  batches = books.batches;
}

-- no sound books have these parts
abbrev pub AreUnsound : Parts → Type 0
AreUnsound parts = (books : PlainBooks) → IsSound books → parts_of books ≡ parts → ⊥
