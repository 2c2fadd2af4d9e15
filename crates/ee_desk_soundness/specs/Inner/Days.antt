-- Definitions that private contracts alone cite; specs/Days.antt has the others.
use Rattle.std.specs.Prelude.{◌≡◌, ℕ, ◌<◌, ◌≤◌, ◌+◌, Bool, ◌==◌, List, ◌++◌, map, length, Option, Some, None, IsSome, sum_by, count_by, true, if◌then◌else◌}
use Rattle.std.specs.List.{AllByRecursion, list_any}
use Rattle.std.specs.Map.{lookup}
use Rattle.std.specs.BTreeMap.{is_at}
use Rattle.std.specs.Ordering.{nat_cmp}
use Rattle.ee_desk_model.specs.declared.replies.Ticket.{Ticket}
use Rattle.ee_desk_model.specs.declared.replies.Batch.{Batch}
use Rattle.ee_desk_model.specs.PlainBooks.{of_day, bonds_on, total_of}
use Rattle.ee_desk_model.specs.Refusals.{most_tickets}
use Rattle.ee_desk_model.specs.Sound.{day_of_batch, open_days}
use Rattle.ee_desk_decide.specs.declared.views.DayCounts.{DayCounts}
use Rattle.ee_desk_soundness.specs.Days.{counts_in}

-- the counts of a day
abbrev pub counts_at : List (ℕ × DayCounts) → ℕ → Option DayCounts
counts_at counts day = lookup (is_at (nat_cmp day)) counts

-- the closed days and the open day
abbrev pub days_of : List Batch → Option ℕ → List ℕ
days_of batches day = map day_of_batch batches ++ open_days day

abbrev pub no_counts : DayCounts
no_counts = record { tickets = 0; bonds = 0; total = record { 0 = 0 } }

-- how many tickets a day has, how many bonds they pay, and their sum
abbrev pub counts_on : List Ticket → ℕ → DayCounts
counts_on tickets day = record {
  tickets = length (of_day day tickets);
  bonds = sum_by bonds_on (of_day day tickets);
  total = record { 0 = sum_by total_of (of_day day tickets) };
}

-- each of these days has the counts of its tickets
abbrev pub AreCounted : List (ℕ × DayCounts) → List ℕ → List Ticket → Type 0
AreCounted counts days tickets = (day : ℕ) → counts_at counts day ≡ (if list_any (λ d. day == d) days then Some (counts_on tickets day) else None)

-- each of these days has zero counts, and no other day has counts
abbrev pub AreNothing : List (ℕ × DayCounts) → List ℕ → Type 0
AreNothing counts days = (day : ℕ) → counts_at counts day ≡ (if list_any (λ d. day == d) days then Some no_counts else None)

-- the same counts, with zero counts for more days
abbrev pub HasMore : List (ℕ × DayCounts) → List (ℕ × DayCounts) → List ℕ → Type 0
HasMore old new days = (day : ℕ) → counts_at new day ≡ (if list_any (λ d. day == d) days then Some no_counts else counts_at old day)

-- at most 100 lines, for bonds that are each worth at most 3,044,936.00 dollars
abbrev pub IsSmall : Ticket → Type 0
IsSmall ticket = (length ticket.lines ≤ 100) × (ticket.total.0 ≤ 30449360000)

-- the counts after one more ticket, if it is of their day
abbrev pub counted : Bool → Ticket → DayCounts → DayCounts
counted own ticket counts = if own then record { tickets = counts.tickets + 1; bonds = counts.bonds + length ticket.lines; total = record { 0 = counts.total.0 + ticket.total.0 } } else counts

-- counts to which a small ticket can be added
abbrev pub HasSpace : Ticket → DayCounts → Type 0
HasSpace ticket counts = (counts.tickets < most_tickets) × (counts.bonds + length ticket.lines ≤ 100000) × (counts.total.0 + ticket.total.0 ≤ 30449360000000)

-- the day has counts, with room for one more ticket
abbrev pub HasRoom : Option DayCounts → Type 0
HasRoom None = ⊥
HasRoom (Some counts) = counts.tickets < most_tickets

-- each ticket's day is one of these, and no day has more than 1,000 tickets
abbrev pub FitDays : List ℕ → List Ticket → Type 0
FitDays days tickets = AllByRecursion (λ ticket. list_any (λ day. ticket.day == day) days ≡ true) tickets × ((day : ℕ) → count_by (λ ticket. ticket.day == day) tickets ≤ most_tickets)

-- the same, for the days that have counts
abbrev pub FitCounts : List (ℕ × DayCounts) → List Ticket → Type 0
FitCounts counts tickets = AllByRecursion (λ ticket. IsSome (counts_at counts ticket.day)) tickets × ((day : ℕ) → count_by (λ ticket. ticket.day == day) tickets ≤ most_tickets)

-- a batch has the counts of its day
abbrev pub IsCounted : List (ℕ × DayCounts) → Batch → Type 0
IsCounted counts batch = counts_at counts batch.day ≡ Some (counts_in batch)
