-- The rows of tickets, of their lines and of batches are in the order of their keys.
use Rattle.std.proofs.Common.{◌≡◌, ℕ, suc, ◌+◌, ◌<◌, ◌≤◌, List, [], ◌∷◌, ◌++◌, map, arith, sym, subst, Less}
use Rattle.std.specs.Prelude.{T, flat_map}
use Rattle.std.specs.List.{AllByRecursion}
use Rattle.std.specs.Ordering.{nat_cmp, is_lt, ordering_then}
use Rattle.std.specs.Cmp.{nat_cmp_total, nat_cmp_is, tied_itself}
use Rattle.std.specs.FinMap.{nat_cmp-IsAntisymmetric, entries, is_sorted}
use Rattle.std.specs.FinMap.Entries.{below_all}
use Rattle.std.proofs.Math.Facts.{yes_and}
use Rattle.ee_desk_model.specs.declared.replies.Line.{Line}
use Rattle.ee_desk_model.specs.declared.replies.Ticket.{Ticket}
use Rattle.ee_desk_model.specs.declared.replies.Batch.{Batch}
use Rattle.ee_desk_model.specs.Lists.{Rising}
use Rattle.ee_desk_model.specs.Sound.{NumberedFrom, day_of_batch}
use Rattle.ee_store_tables.specs.Keyed.{pair_cmp}
use Rattle.ee_store_tables.specs.Rows.{TicketRow, PaidRow, BatchRow}
use Rattle.ee_store_rows.specs.Rows.{ticket_row, batch_row}
use Rattle.ee_store_books.specs.Standing.{ticket_rows, paid_rows, placed, batch_rows}
use Rattle.ee_store_books.proofs.Images.{pair_total, pair_same, sorted_entries}

less : (x y : ℕ) → x < y → T (is_lt (nat_cmp x y))
less x y h = subst (λ o. T (is_lt o)) (nat_cmp_is x y Less h) tt

-- ---- tickets
abbrev pub ticket_entry : Ticket → ℕ × TicketRow
ticket_entry ticket = (ticket.ticket, ticket_row ticket)

tickets_above : (k n : ℕ) (tickets : List Ticket) → k < n → NumberedFrom n tickets → T (below_all nat_cmp k (map ticket_entry tickets))
tickets_above k n [] h numbered = tt
tickets_above k n (t ∷ tickets) h numbered =
    let is = numbered.0 in
    yes_and _ _ (less k t.ticket (omega (arith, is, h))) (tickets_above k (suc n) tickets (omega (arith, h)) numbered.1)

tickets_rise : (n : ℕ) (tickets : List Ticket) → NumberedFrom n tickets → T (is_sorted nat_cmp (map ticket_entry tickets))
tickets_rise n [] numbered = tt
tickets_rise n (t ∷ tickets) numbered =
    let is = numbered.0 in
    yes_and _ _ (tickets_above t.ticket (suc n) tickets (omega (arith, is)) numbered.1) (tickets_rise (suc n) tickets numbered.1)

pub ticket_entries : (tickets : List Ticket) → NumberedFrom 1 tickets → entries (ticket_rows tickets) ≡ map ticket_entry tickets
ticket_entries tickets numbered = sorted_entries nat_cmp_total nat_cmp-IsAntisymmetric (map ticket_entry tickets) (tickets_rise 1 tickets numbered)

-- ---- lines
abbrev pub ticket_lines : Ticket → List ((ℕ × ℕ) × PaidRow)
ticket_lines ticket = placed ticket.ticket 1 ticket.lines

first_less : (a b c d : ℕ) → a < c → T (is_lt (pair_cmp (a, b) (c, d)))
first_less a b c d h = subst (λ o. T (is_lt (ordering_then o (nat_cmp b d)))) (nat_cmp_is a c Less h) tt

second_less : (a b d : ℕ) → b < d → T (is_lt (pair_cmp (a, b) (a, d)))
second_less a b d h = subst (λ o. T (is_lt (ordering_then o (nat_cmp b d)))) (sym (tied_itself nat_cmp_total a)) (less b d h)

-- the keys are of tickets from n on
abbrev AreFrom : ℕ → List ((ℕ × ℕ) × PaidRow) → Type 0
AreFrom n rows = AllByRecursion (λ e. n ≤ e.0.0) rows

from_later : (m n : ℕ) (rows : List ((ℕ × ℕ) × PaidRow)) → m ≤ n → AreFrom n rows → AreFrom m rows
from_later m n [] h all = tt
from_later m n (row ∷ rows) h all = let here = all.0 in (omega (arith, h, here), from_later m n rows h all.1)

placed_from : (n place : ℕ) (lines : List Line) (rest : List ((ℕ × ℕ) × PaidRow)) → AreFrom n rest → AreFrom n (placed n place lines ++ rest)
placed_from n place [] rest all = all
placed_from n place (line ∷ lines) rest all = (omega arith, placed_from n (place + 1) lines rest all)

lines_from : (n : ℕ) (tickets : List Ticket) → NumberedFrom n tickets → AreFrom n (flat_map ticket_lines tickets)
lines_from n [] numbered = tt
lines_from n (t ∷ tickets) numbered =
    let is = numbered.0 in
    let rest = from_later n (suc n) _ (omega arith) (lines_from (suc n) tickets numbered.1) in
    subst (λ m. AreFrom n (placed m 1 t.lines ++ flat_map ticket_lines tickets)) (sym is) (placed_from n 1 t.lines _ rest)

rest_above : (n place : ℕ) (rest : List ((ℕ × ℕ) × PaidRow)) → AreFrom (suc n) rest → T (below_all pair_cmp (n, place) rest)
rest_above n place [] all = tt
rest_above n place (row ∷ rest) all = let here = all.0 in yes_and _ _ (first_less n place row.0.0 row.0.1 (omega (arith, here))) (rest_above n place rest all.1)

placed_above : (n place from : ℕ) (lines : List Line) (rest : List ((ℕ × ℕ) × PaidRow)) → place < from → AreFrom (suc n) rest → T (below_all pair_cmp (n, place) (placed n from lines ++ rest))
placed_above n place from [] rest h all = rest_above n place rest all
placed_above n place from (line ∷ lines) rest h all = yes_and _ _ (second_less n place from h) (placed_above n place (from + 1) lines rest (omega (arith, h)) all)

placed_rise : (n place : ℕ) (lines : List Line) (rest : List ((ℕ × ℕ) × PaidRow)) → AreFrom (suc n) rest → T (is_sorted pair_cmp rest) → T (is_sorted pair_cmp (placed n place lines ++ rest))
placed_rise n place [] rest all sorted = sorted
placed_rise n place (line ∷ lines) rest all sorted =
    yes_and _ _ (placed_above n place (place + 1) lines rest (omega arith) all) (placed_rise n (place + 1) lines rest all sorted)

lines_rise : (n : ℕ) (tickets : List Ticket) → NumberedFrom n tickets → T (is_sorted pair_cmp (flat_map ticket_lines tickets))
lines_rise n [] numbered = tt
lines_rise n (t ∷ tickets) numbered =
    let rest = lines_from (suc n) tickets numbered.1 in
    subst (λ m. T (is_sorted pair_cmp (placed m 1 t.lines ++ flat_map ticket_lines tickets))) (sym numbered.0)
    (placed_rise n 1 t.lines (flat_map ticket_lines tickets) rest (lines_rise (suc n) tickets numbered.1))

pub paid_entries : (tickets : List Ticket) → NumberedFrom 1 tickets → entries (paid_rows tickets) ≡ flat_map ticket_lines tickets
paid_entries tickets numbered = sorted_entries pair_total pair_same (flat_map ticket_lines tickets) (lines_rise 1 tickets numbered)

-- ---- batches
abbrev pub batch_entry : Batch → ℕ × BatchRow
batch_entry batch = (batch.day, batch_row batch)

batches_above : (k : ℕ) (batches : List Batch) → AllByRecursion (λ d. k < d) (map day_of_batch batches) → T (below_all nat_cmp k (map batch_entry batches))
batches_above k [] h = tt
batches_above k (b ∷ batches) h = yes_and _ _ (less k b.day h.0) (batches_above k batches h.1)

batches_rise : (batches : List Batch) → Rising (map day_of_batch batches) → T (is_sorted nat_cmp (map batch_entry batches))
batches_rise [] h = tt
batches_rise (b ∷ batches) h = yes_and _ _ (batches_above b.day batches h.0) (batches_rise batches h.1)

pub batch_entries : (batches : List Batch) → Rising (map day_of_batch batches) → entries (batch_rows batches) ≡ map batch_entry batches
batch_entries batches rising = sorted_entries nat_cmp_total nat_cmp-IsAntisymmetric (map batch_entry batches) (batches_rise batches rising)

-- the days of batches rise, whether a day is open or not
pub all_front : (P : ℕ → Type 0) (xs ys : List ℕ) → AllByRecursion P (xs ++ ys) → AllByRecursion P xs
all_front P [] ys h = tt
all_front P (x ∷ xs) ys h = (h.0, all_front P xs ys h.1)

pub rising_front : (xs ys : List ℕ) → Rising (xs ++ ys) → Rising xs
rising_front [] ys h = tt
rising_front (x ∷ xs) ys h = (all_front _ xs ys h.0, rising_front xs ys h.1)
