-- What was paid: the serial numbers and cents of all lines of all tickets.
use Rattle.std.specs.Prelude.{◌≡◌, ℕ, ◌+◌, ◌≤◌, false, List, [], ◌∷◌, Some, ⊤}
use Rattle.std.specs.List.{AllByRecursion, flat_map}
use Rattle.std.specs.FinMap as finite
use Rattle.ee_units.specs.Calendar.{month_of_day, period_start}
use Rattle.ee_calculator.specs.declared.bonds.Bond.{Bond}
use Rattle.ee_value.specs.declared.rates.Rates.{Rates}
use Rattle.ee_desk_model.specs.declared.replies.Line.{Line}
use Rattle.ee_desk_model.specs.declared.replies.Ticket.{Ticket}
use Rattle.ee_desk_model.specs.Serials.{same_serial}
use Rattle.ee_desk_model.specs.PlainBooks.{PlainBooks}
use Rattle.ee_desk_model.specs.Values.{value_of}

-- the lines of all tickets
abbrev pub paid_lines : List Ticket → List Line
paid_lines tickets = flat_map (λ ticket. ticket.lines) tickets

-- no serial number is on two lines
abbrev pub NoneTwice : List Line → Type 0
NoneTwice [] = ⊤
NoneTwice (line ∷ lines) = AllByRecursion (λ other. same_serial line.serial other.serial ≡ false) lines × NoneTwice lines

-- a line pays the bond with its serial number, at least 12 months old, the value of that bond in the month of the day,
-- at the rates of its period
abbrev pub PaysValue : PlainBooks → ℕ → Line → Type 0
PaysValue books day line =
    (bond : Bond) × (rates : Rates)
    × (finite.get books.bonds line.serial ≡ Some bond)
    × (finite.get books.rates (period_start bond.issued) ≡ Some rates)
    × (bond.issued + 12 ≤ month_of_day day)
    × (line.cents.0 ≡ value_of rates bond (month_of_day day))

-- each line of each ticket pays the value of its bond in the month of the ticket's day
abbrev pub ArePaidRight : PlainBooks → Type 0
ArePaidRight books = AllByRecursion (λ ticket. AllByRecursion (PaysValue books ticket.day) ticket.lines) books.tickets
