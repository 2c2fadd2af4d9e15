-- Bonds as rows, each with the ticket that pays it.
use Rattle.std.specs.Prelude.{◌≡◌, List}
use Rattle.std.specs.List.{AllByRecursion}
use Rattle.ee_calculator.specs.declared.bonds.Bond.{Bond}
use Rattle.ee_desk_model.specs.declared.changes.Held.{Held}
use Rattle.ee_desk_model.specs.declared.replies.Ticket.{Ticket}
use Rattle.ee_desk_model.specs.PlainBooks.{ticket_of}

abbrev pub bond_of : Held → Bond
bond_of held = held.bond

-- each row names the ticket that pays its bond
abbrev pub AreMarked : List Ticket → List Held → Type 0
AreMarked tickets rows = AllByRecursion (λ held. held.ticket ≡ ticket_of tickets held.bond.serial) rows
