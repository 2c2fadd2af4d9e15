-- Changes that can be applied to sound books, in order.
use Rattle.std.specs.Prelude.{◌≡◌, ◌<◌, List, [], ◌∷◌, ◌++◌, length, sum_by, Some, None, IfSome, ⊤}
use Rattle.std.specs.List.{AllByRecursion}
use Rattle.ee_desk_model.specs.declared.changes.Change.{Change}
use Rattle.ee_desk_model.specs.declared.changes.Change.TheVariants as change
use Rattle.ee_desk_model.specs.declared.replies.Ticket.{Ticket}
use Rattle.ee_desk_model.specs.PlainBooks.{PlainBooks, ticket_of, of_day, bonds_on, total_of}
use Rattle.ee_desk_decide.specs.Inner.NewRows.{rate_row, bond_row, AreNew}

abbrev pub IsRate : Change → Type 0
IsRate (change.Rates from rates) = ⊤
IsRate (change.Bond bond) = ⊥
IsRate (change.Day day) = ⊥
IsRate (change.Ticket ticket) = ⊥
IsRate (change.Batch batch) = ⊥

abbrev pub IsBond : Change → Type 0
IsBond (change.Rates from rates) = ⊥
IsBond (change.Bond bond) = ⊤
IsBond (change.Day day) = ⊥
IsBond (change.Ticket ticket) = ⊥
IsBond (change.Batch batch) = ⊥

-- no ticket names the serial number of the bond that a change adds
abbrev pub IsUnpaid : PlainBooks → Change → Type 0
IsUnpaid books change = IfSome (bond_row change) (λ row. ticket_of books.tickets row.0 ≡ None)

-- with this ticket, the counts of its day stay small
abbrev pub HasRoom : List Ticket → Ticket → Type 0
HasRoom tickets ticket =
    (length (of_day ticket.day (tickets ++ ticket ∷ [])) < 4294967296)
    × (sum_by bonds_on (of_day ticket.day (tickets ++ ticket ∷ [])) < 4611686018427387904)
    × (sum_by total_of (of_day ticket.day (tickets ++ ticket ∷ [])) < 4611686018427387904)

-- the ticket is of the open day, and its bonds are on no other ticket
abbrev pub IsNextTicket : PlainBooks → Ticket → Type 0
IsNextTicket books ticket =
    AllByRecursion (λ line. ticket_of books.tickets line.serial ≡ None) ticket.lines
    × (books.day ≡ Some ticket.day) × HasRoom books.tickets ticket

-- changes that can be applied to the books in order
abbrev pub AreApplicable : PlainBooks → List Change → Type 0
AreApplicable books [] = ⊤
AreApplicable books (change.Rates from rates ∷ cs) = AllByRecursion IsRate cs × AreNew rate_row books.rates (change.Rates from rates ∷ cs)
AreApplicable books (change.Bond bond ∷ cs) =
    AllByRecursion IsBond cs × AreNew bond_row books.bonds (change.Bond bond ∷ cs) × AllByRecursion (IsUnpaid books) (change.Bond bond ∷ cs)
AreApplicable books (change.Day day ∷ cs) = (cs ≡ []) × (of_day day books.tickets ≡ [])
AreApplicable books (change.Ticket ticket ∷ cs) = (cs ≡ []) × IsNextTicket books ticket
AreApplicable books (change.Batch batch ∷ cs) = cs ≡ []
