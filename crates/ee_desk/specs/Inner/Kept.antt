-- How the maps in memory are read.
use Rattle.std.specs.Prelude.{◌≡◌, ℕ, ◌&&◌, ◌==◌, List, Option, Some, None, IfSome, is_none, if◌then◌else◌}
use Rattle.std.specs.FinMap as finite
use Rattle.std.specs.FinMap.{FinMap}
use Rattle.ee_units.specs.Spelling.{SerialNumber}
use Rattle.ee_value.specs.declared.rates.Rates.{Rates}
use Rattle.ee_calculator.specs.declared.bonds.Bond.{Bond}
use Rattle.ee_desk_model.specs.declared.changes.Held.{Held}
use Rattle.ee_desk_model.specs.declared.replies.Ticket.{Ticket}
use Rattle.ee_desk_model.specs.declared.replies.Batch.{Batch}
use Rattle.ee_desk_model.specs.declared.changes.Kept.{Kept}
use Rattle.ee_desk_decide.specs.declared.views.DayCounts.{DayCounts}
use Rattle.ee_desk_model.specs.Numbers.{RequestKey, number_cmp}
use Rattle.ee_desk.specs.Inner.Marks.{bonds_held}
use Rattle.ee_desk_model.specs.PlainBooks.{PlainBooks}
use Rattle.ee_desk_decide.specs.Noted.{rates_in}

-- the counts of a batch
abbrev pub AreCounts : Batch → DayCounts → Type 0
AreCounts batch counts = (counts.tickets ≡ batch.tickets) × (counts.bonds ≡ batch.bonds) × (counts.total.0 ≡ batch.total.0)

-- the books that the parts in memory represent
abbrev pub books_of : List (ℕ × Rates) → List (SerialNumber × Held) → Option ℕ → Option ℕ → List Ticket → List Batch → PlainBooks
books_of rates bonds day last tickets batches =
    record { rates = rates_in rates; bonds = bonds_held bonds; day = day; last_day = last; tickets = tickets; batches = batches }

-- an unpaid bond of this customer
abbrev pub own_bond : ℕ → Held → Option Bond
own_bond customer held = if (held.bond.owner == customer) && is_none held.ticket then Some held.bond else None

-- each bond is filed under its serial number
abbrev pub AreKeyed : PlainBooks → Type 0
AreKeyed books = (serial : SerialNumber) → IfSome (finite.get books.bonds serial) (λ bond. bond.serial ≡ serial)

-- the kept replies that a map in memory represents
abbrev pub kept_in : List (RequestKey × Kept) → FinMap number_cmp Kept
kept_in kept = finite.from_entries kept
