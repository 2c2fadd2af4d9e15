-- The lines of a ticket in their places and, separately, the marks of their bonds.
use Rattle.std.specs.Prelude.{⊤, ℕ, ◌+◌, List, [], ◌∷◌}
use Rattle.ee_store_tables.specs.Rows.{Rows, PaidRow, with_paid, marked, CanPay}

-- with lines added to a ticket, in consecutive places from this one
abbrev pub with_places : Rows → ℕ → ℕ → List PaidRow → Rows
with_places rows t place [] = rows
with_places rows t place (line ∷ lines) = with_places (with_paid rows (t, place) line) t (place + 1) lines

-- with the bonds of lines marked as paid on the ticket, if they are registered
abbrev pub all_marked : Rows → ℕ → List PaidRow → Rows
all_marked rows t [] = rows
all_marked rows t (line ∷ lines) = all_marked (marked rows (line.letter, line.number) t) t lines

-- no line has one of these places on the ticket, and none pays one of the bonds
abbrev pub CanPlaceAll : Rows → ℕ → ℕ → List PaidRow → Type 0
CanPlaceAll rows t place [] = ⊤
CanPlaceAll rows t place (line ∷ lines) = CanPay rows t place line × CanPlaceAll (with_paid rows (t, place) line) t (place + 1) lines
