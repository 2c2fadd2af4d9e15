-- The tickets of a day, and the number of the last, by their rows.
use Rattle.std.proofs.Common.{◌≡◌, ◌==◌, ℕ, suc, ◌+◌, ◌-◌, ◌≤◌, eqb, Bool, true, false, cond, List, [], ◌∷◌, map, filter, length, Some, arith, refl, sym, ap, subst, ◌∙◌}
use Rattle.std.specs.Option.{option_map_or, unwrap_or}
use Rattle.std.specs.List.{AllByRecursion, fold, sum_by}
use Rattle.std.specs.FinMap.{entries}
use Rattle.std.proofs.lemmas.Bool.{eqb-true, eq-eqb}
use Rattle.ee_desk_model.specs.declared.replies.Ticket.{Ticket}
use Rattle.ee_desk_model.specs.PlainBooks.{of_day, bonds_on, total_of}
use Rattle.ee_desk_model.specs.Lists.{NeverFalling}
use Rattle.ee_desk_model.specs.Sound.{NumberedFrom, day_of}
use Rattle.ee_desk_model.specs.Repeats.{Content}
use Rattle.ee_desk_model.proofs.Lemmas.Books.{none_later}
use Rattle.ee_store_tables.specs.declared.records.TicketSum.{TicketSum}
use Rattle.ee_store_tables.specs.AsRows.{sum_of}
use Rattle.ee_store_tables.specs.Rows.{TicketRow, first_number, last_number, tickets_on}
use Rattle.ee_store_books.specs.Standing.{rows_of, IsRight}
use Rattle.ee_store_books.proofs.Lemmas.Contents.{ticket_entry, ticket_entries}

last_is : (n : ℕ) (t : Ticket) (ts : List Ticket) → NumberedFrom n (t ∷ ts) → last_number (map ticket_entry (t ∷ ts)) ≡ Some (length ts + n)
last_is n t [] h = ap Some (let is = h.0 in omega (arith, is))
last_is n t (u ∷ ts) h = last_is (suc n) u ts h.1 ∙ ap Some (omega arith)

last_of : (ts : List Ticket) → NumberedFrom 1 ts → unwrap_or (last_number (map ticket_entry ts)) 0 ≡ length ts
last_of [] h = refl
last_of (t ∷ ts) h = ap (λ o. unwrap_or o 0) (last_is 1 t ts h) ∙ omega arith

pub last_is_count : (S : Content) → IsRight S → unwrap_or (last_number (entries (rows_of S).tickets)) 0 ≡ length S.books.tickets
last_is_count S right = ap (λ es. unwrap_or (last_number es) 0) (ticket_entries S.books.tickets right.sound.numbered) ∙ last_of S.books.tickets right.sound.numbered

day_entries : (day : ℕ) (ts : List Ticket) → filter (λ (e : ℕ × TicketRow). e.1.day == day) (map ticket_entry ts) ≡ map ticket_entry (of_day day ts)
day_entries day [] = refl
day_entries day (t ∷ ts) = keep (eqb t.day day) (day_entries day ts)
  where
    keep : (b : Bool) {xs : List (ℕ × TicketRow)} → xs ≡ map ticket_entry (of_day day ts) → cond b (ticket_entry t ∷ xs) xs ≡ map ticket_entry (cond b (t ∷ of_day day ts) (of_day day ts))
    keep true is = ap (λ l. ticket_entry t ∷ l) is
    keep false is = is

-- the rows of a day's tickets
pub entries_on : (S : Content) (day : ℕ) → IsRight S → tickets_on (rows_of S) day ≡ map ticket_entry (of_day day S.books.tickets)
entries_on S day right = ap (filter (λ (e : ℕ × TicketRow). e.1.day == day)) (ticket_entries S.books.tickets right.sound.numbered) ∙ day_entries day S.books.tickets

pub sums_on : (S : Content) (day : ℕ) → IsRight S → map sum_of (tickets_on (rows_of S) day) ≡ map sum_of (map ticket_entry (of_day day S.books.tickets))
sums_on S day right = ap (map sum_of) (entries_on S day right)

pub sums_length : (ts : List Ticket) → length (map sum_of (map ticket_entry ts)) ≡ length ts
sums_length [] = refl
sums_length (t ∷ ts) = ap suc (sums_length ts)

bonds_from : (n : ℕ) (ts : List Ticket) → fold (λ a (s : TicketSum). a + s.bonds) n (map sum_of (map ticket_entry ts)) ≡ fold (λ a t. a + bonds_on t) n ts
bonds_from n [] = refl
bonds_from n (t ∷ ts) = bonds_from (n + bonds_on t) ts

pub sums_bonds : (ts : List Ticket) → sum_by (λ (s : TicketSum). s.bonds) (map sum_of (map ticket_entry ts)) ≡ sum_by bonds_on ts
sums_bonds ts = bonds_from 0 ts

total_from : (n : ℕ) (ts : List Ticket) → fold (λ a (s : TicketSum). a + s.total) n (map sum_of (map ticket_entry ts)) ≡ fold (λ a t. a + total_of t) n ts
total_from n [] = refl
total_from n (t ∷ ts) = total_from (n + total_of t) ts

pub sums_total : (ts : List Ticket) → sum_by (λ (s : TicketSum). s.total) (map sum_of (map ticket_entry ts)) ≡ sum_by total_of ts
sums_total ts = total_from 0 ts

-- ---- the open day's tickets are the last ones
all_on : (day : ℕ) (ts : List Ticket) → AllByRecursion (λ d. day ≤ d) (map day_of ts) → AllByRecursion (λ t. t.day ≤ day) ts → length (of_day day ts) ≡ length ts
all_on day [] low high = refl
all_on day (t ∷ ts) low high =
    let above = low.0 in
    let below = high.0 in
    let same = eq-eqb t.day day (omega (arith, above, below)) in
    ap (λ b. length (cond b (t ∷ of_day day ts) (of_day day ts))) same ∙ ap suc (all_on day ts low.1 high.1)

from_first_to : (day last n : ℕ) (ts : List Ticket) → 1 ≤ n → n + length ts ≡ suc last → NumberedFrom n ts → NeverFalling (map day_of ts) → AllByRecursion (λ t. t.day ≤ day) ts
    → option_map_or (λ m. last - (m - 1)) (first_number (map ticket_entry (of_day day ts))) 0 ≡ length (of_day day ts)
from_first_to day last n [] some ends numbered order high = refl
from_first_to day last n (t ∷ ts) some ends numbered order high =
    by_case (eqb t.day day) refl (from_first_to day last (suc n) ts (omega arith) (omega (arith, ends)) numbered.1 order.1 high.1)
  where
    by_case : (b : Bool) → eqb t.day day ≡ b → option_map_or (λ m. last - (m - 1)) (first_number (map ticket_entry (of_day day ts))) 0 ≡ length (of_day day ts)
        → option_map_or (λ m. last - (m - 1)) (first_number (map ticket_entry (cond b (t ∷ of_day day ts) (of_day day ts)))) 0 ≡ length (cond b (t ∷ of_day day ts) (of_day day ts))
    by_case true is rest =
        let own = eqb-true t.day day is in
        let number = numbered.0 in
        let all = all_on day ts (subst (λ d. AllByRecursion (λ e. d ≤ e) (map day_of ts)) own order.0) high.1 in
        omega (arith, some, ends, number, all)
    by_case false is rest = rest

pub from_first_on : (S : Content) (day count : ℕ) → IsRight S → Some day ≡ S.books.day → count ≡ length S.books.tickets
    → option_map_or (λ m. count - (m - 1)) (first_number (tickets_on (rows_of S) day)) 0 ≡ length (of_day day S.books.tickets)
from_first_on S day count right opened is =
    ap (λ es. option_map_or (λ m. count - (m - 1)) (first_number es) 0) (entries_on S day right)
    ∙ from_first_to day count 1 S.books.tickets (omega arith) (omega (arith, is)) right.sound.numbered right.sound.in_order (none_later S.books right.sound day (sym opened))
