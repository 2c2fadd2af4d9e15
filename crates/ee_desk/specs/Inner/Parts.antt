-- Definitions that private contracts alone cite; specs/Parts.antt has the others.
use Rattle.std.specs.Prelude.{List}
use Rattle.ee_calculator.specs.declared.bonds.Bond.{Bond}
use Rattle.ee_desk_model.specs.declared.changes.Held.{Held}
use Rattle.ee_desk_model.specs.declared.replies.Ticket.{Ticket}
use Rattle.ee_desk_model.specs.Seen.{held_as}

-- a bond, with the ticket that pays it
abbrev pub held_bond : List Ticket → Bond → Held
held_bond tickets bond = held_as tickets bond.serial bond
