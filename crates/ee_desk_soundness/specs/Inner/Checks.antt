-- Definitions that private contracts alone cite; specs/Checks.antt has the others.
use Rattle.std.specs.Prelude.{◌≡◌, ℕ, ◌+◌, ◌<◌, ◌≤◌, ◌==◌, true, List, map, length, find, sum_by, count_by, Option, Some, IfSome}
use Rattle.std.specs.List.{AllByRecursion}
use Rattle.std.specs.Option.{IsSomeAnd}
use Rattle.std.specs.FinMap as finite
use Rattle.std.specs.FinMap.{FinMap}
use Rattle.std.specs.Ordering.{nat_cmp}
use Rattle.ee_value.specs.declared.rates.Rates.{Rates}
use Rattle.ee_value.specs.declared.rates.RateRow.{RateRow}
use Rattle.ee_calculator.specs.declared.bonds.Bond.{Bond}
use Rattle.ee_desk_model.specs.Serials.{same_serial}
use Rattle.ee_units.specs.Calendar.{month_of_day, period_start}
use Rattle.ee_desk_model.specs.declared.changes.Held.{Held}
use Rattle.ee_desk_model.specs.declared.replies.Batch.{Batch}
use Rattle.ee_desk_model.specs.declared.replies.Line.{Line}
use Rattle.ee_desk_model.specs.declared.replies.Ticket.{Ticket}
use Rattle.ee_desk_model.specs.Values.{value_of}
use Rattle.ee_calculator.specs.Bonds.{is_payee}
use Rattle.ee_desk_model.specs.PlainBooks.{batch_of, cents_of}
use Rattle.ee_desk_model.specs.Paid.{paid_lines}
use Rattle.ee_desk_model.specs.Sound.{IsRightRate, IsRightBond, NumberedFrom, day_of, last_of}
use Rattle.ee_desk_soundness.specs.Inner.Marks.{is_marked}
use Rattle.ee_desk_soundness.specs.Inner.Days.{days_of, FitDays}
use Rattle.ee_desk_soundness.specs.Checks.{rates_in, InOrder, HaveRisingMonths, HaveRisingSerials}

-- the last element, if there is one, is related so to the next
abbrev pub IsAfter : {K : Type 0} → (K → K → Type 0) → Option K → K → Type 0
IsAfter R last k = IfSome last (λ j. R j k)

abbrev pub IsRightRow : RateRow → Type 0
IsRightRow row = IsRightRate row.from row.rates

-- a bond that may be registered under its own serial number
abbrev pub IsRightOwn : FinMap nat_cmp Rates → Bond → Type 0
IsRightOwn rates bond = IsRightBond rates bond.serial bond

-- a line pays a bond of the payee, at least 12 months old, its value in the month of the day
abbrev pub PaysBond : FinMap nat_cmp Rates → Bond → Ticket → Line → Type 0
PaysBond rates bond ticket line =
    (terms : Rates)
    × (finite.get rates (period_start bond.issued) ≡ Some terms)
    × (is_payee bond ticket.payee ≡ true)
    × (bond.issued + 12 ≤ month_of_day ticket.day)
    × (line.cents.0 ≡ value_of terms bond (month_of_day ticket.day))

-- rates and bonds that sound books may have
pub record IsRegister (rows : List RateRow) (own : List Bond) : Type 0 where
  pub months : HaveRisingMonths rows
  pub serials : HaveRisingSerials own
  pub right : AllByRecursion IsRightRow rows
  pub owned : AllByRecursion (IsRightOwn (rates_in rows)) own

-- a ticket has a line for the bond, and the first such line pays it
abbrev pub IsOn : FinMap nat_cmp Rates → Bond → Ticket → Type 0
IsOn rates bond ticket = IsSomeAnd (find (λ line. same_serial bond.serial line.serial) ticket.lines) (PaysBond rates bond ticket)

-- the ticket of this number pays the bond
abbrev pub IsPaidBy : FinMap nat_cmp Rates → List Ticket → Bond → ℕ → Type 0
IsPaidBy rates tickets bond number = IsSomeAnd (find (λ ticket. ticket.ticket == number) tickets) (IsOn rates bond)

-- a row that names no ticket, or one that pays its bond
abbrev pub IsRightlyPaid : FinMap nat_cmp Rates → List Ticket → Held → Type 0
IsRightlyPaid rates tickets held = IfSome held.ticket (IsPaidBy rates tickets held.bond)

-- a ticket with 1 to 100 lines, and their sum
pub record IsWhole (ticket : Ticket) : Type 0 where
  pub some : 1 ≤ length ticket.lines
  pub few : length ticket.lines ≤ 100
  pub total : ticket.total.0 ≡ sum_by cents_of ticket.lines

-- tickets that pay the bonds of these rows, each once, their value at these rates, and rows that each name the ticket that
-- pays their bond: as many rows name a ticket as the tickets have lines
pub record ArePaid (rates : FinMap nat_cmp Rates) (rows : List Held) (tickets : List Ticket) : Type 0 where
  pub numbered : NumberedFrom 1 tickets
  pub in_order : InOrder ◌≤◌ (map day_of tickets)
  pub whole : AllByRecursion IsWhole tickets
  pub paid : AllByRecursion (IsRightlyPaid rates tickets) rows
  pub as_many : count_by is_marked rows ≡ length (paid_lines tickets)

-- batches that sound books with these tickets may have
pub record AreRightBatches (tickets : List Ticket) (closed : List Batch) (day : Option ℕ) : Type 0 where
  pub fit : FitDays (days_of closed day) tickets
  pub batches : AllByRecursion (λ batch. batch ≡ batch_of batch.day tickets) closed

-- days and batches that sound books with these tickets may have
pub record AreClosed (tickets : List Ticket) (closed : List Batch) (day : Option ℕ) (last : Option ℕ) : Type 0 where
  pub rising : InOrder ◌<◌ (days_of closed day)
  pub latest : last ≡ last_of closed
  pub right : AreRightBatches tickets closed day
