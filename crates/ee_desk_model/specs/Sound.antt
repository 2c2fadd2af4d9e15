-- What holds for all books (this project's rule).
use Rattle.std.specs.Prelude.{◌≡◌, ℕ, suc, ◌+◌, ◌≤◌, true, false, ◌==◌, List, [], ◌∷◌, ◌++◌, map, length, Option, Some, None, IfSome, IsSome, sum_by, count_by, ⊤}
use Rattle.std.specs.List.{AllByRecursion, list_any}
use Rattle.std.specs.FinMap as finite
use Rattle.std.specs.FinMap.{FinMap}
use Rattle.std.specs.Ordering.{nat_cmp}
use Rattle.ee_units.specs.Spelling.{SerialNumber}
use Rattle.ee_calculator.specs.declared.bonds.Bond.{Bond}
use Rattle.ee_desk_model.specs.declared.replies.Line.{Line}
use Rattle.ee_desk_model.specs.declared.replies.Ticket.{Ticket}
use Rattle.ee_desk_model.specs.declared.replies.Batch.{Batch}
use Rattle.ee_desk_model.specs.Serials.{serial_cmp}
use Rattle.ee_value.specs.declared.rates.Rates.{Rates}
use Rattle.ee_value.specs.Chain.{InRange}
use Rattle.ee_desk_model.specs.Paid.{paid_lines, NoneTwice}
use Rattle.ee_units.specs.Calendar.{month_of_day, period_start, is_announcement}
use Rattle.ee_desk_model.specs.Values.{value_of, unsettled}
use Rattle.ee_desk_model.specs.Refusals.{most_tickets}
use Rattle.ee_desk_model.specs.Lists.{Rising, NeverFalling}
use Rattle.ee_calculator.specs.Bonds.{has_coowner, is_payee}
use Rattle.ee_desk_model.specs.PlainBooks.{PlainBooks, cents_of, batch_of}
use Rattle.ee_units.specs.Limits.{earliest_day, latest_day, latest_issue_month}

-- a day from 2005-05-01 to 2199-12-31, as a count from 1970-01-01
abbrev pub IsDay : ℕ → Type 0
IsDay day = (earliest_day ≤ day) × (day ≤ latest_day)

-- an issue month up to 2099-12, as a count from 2005-05
abbrev pub IsIssueMonth : ℕ → Type 0
IsIssueMonth month = month ≤ latest_issue_month

-- rates are those of an announcement month, and leave no value unsettled
pub record IsRightRate (month : ℕ) (rates : Rates) : Type 0 where
  pub announced : is_announcement month ≡ true
  pub settled : unsettled rates ≡ None
  pub in_range : IsIssueMonth month × InRange rates

-- a registered bond is filed under its serial number, has rates, and no coowner who is the owner
pub record IsRightBond (rates : FinMap nat_cmp Rates) (serial : SerialNumber) (bond : Bond) : Type 0 where
  pub keyed : bond.serial ≡ serial
  pub rated : IsSome (finite.get rates (period_start bond.issued))
  pub owned : has_coowner bond bond.owner ≡ false
  pub in_range : IsIssueMonth bond.issued

-- a line pays a registered bond of the payee, at least 12 months old, its value in the month of the day
abbrev pub IsRightLine : FinMap nat_cmp Rates → FinMap serial_cmp Bond → Ticket → Line → Type 0
IsRightLine rates bonds ticket line =
    (bond : Bond) × (terms : Rates)
    × (finite.get bonds line.serial ≡ Some bond)
    × (finite.get rates (period_start bond.issued) ≡ Some terms)
    × (is_payee bond ticket.payee ≡ true)
    × (bond.issued + 12 ≤ month_of_day ticket.day)
    × (line.cents.0 ≡ value_of terms bond (month_of_day ticket.day))

pub record IsRightTicket (rates : FinMap nat_cmp Rates) (bonds : FinMap serial_cmp Bond) (ticket : Ticket) : Type 0 where
  pub some : 1 ≤ length ticket.lines
  pub few : length ticket.lines ≤ 100
  pub lines : AllByRecursion (IsRightLine rates bonds ticket) ticket.lines
  pub total : ticket.total.0 ≡ sum_by cents_of ticket.lines

-- tickets are numbered consecutively from this number
abbrev pub NumberedFrom : ℕ → List Ticket → Type 0
NumberedFrom number [] = ⊤
NumberedFrom number (ticket ∷ tickets) = (ticket.ticket ≡ number) × NumberedFrom (suc number) tickets

abbrev pub day_of : Ticket → ℕ
day_of ticket = ticket.day

abbrev pub day_of_batch : Batch → ℕ
day_of_batch batch = batch.day

abbrev pub open_days : Option ℕ → List ℕ
open_days None = []
open_days (Some day) = day ∷ []

-- the closed days and the open day
abbrev pub days : PlainBooks → List ℕ
days books = map day_of_batch books.batches ++ open_days books.day

abbrev pub last_of : List Batch → Option ℕ
last_of [] = None
last_of (batch ∷ []) = Some batch.day
last_of (batch ∷ other ∷ batches) = last_of (other ∷ batches)

pub record IsSound (books : PlainBooks) : Type 0 where
  pub rates : (month : ℕ) → IfSome (finite.get books.rates month) (IsRightRate month)
  pub bonds : (serial : SerialNumber) → IfSome (finite.get books.bonds serial) (IsRightBond books.rates serial)
  pub numbered : NumberedFrom 1 books.tickets
  pub tickets : AllByRecursion (IsRightTicket books.rates books.bonds) books.tickets
  pub once : NoneTwice (paid_lines books.tickets)
  pub in_order : NeverFalling (map day_of books.tickets)
  pub few : (day : ℕ) → count_by (λ ticket. ticket.day == day) books.tickets ≤ most_tickets
  -- each ticket's day is a closed day or the open day
  pub dated : AllByRecursion (λ ticket. list_any (λ day. ticket.day == day) (days books) ≡ true) books.tickets
  -- the closed days are in rising order, and the open day is later
  pub rising : Rising (days books)
  pub in_range : AllByRecursion IsDay (days books)
  pub last : books.last_day ≡ last_of books.batches
  pub batches : AllByRecursion (λ batch. batch ≡ batch_of batch.day books.tickets) books.batches
