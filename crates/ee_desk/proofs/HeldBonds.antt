-- What is kept of a serial number in memory.
use Rattle.std.proofs.Common.{◌≡◌, List, Option, Some, None, refl, sym, ap, ◌∙◌}
use Rattle.std.specs.Option.{option_map, IfSome}
use Rattle.std.specs.FinMap as finite
use Rattle.ee_units.specs.Spelling.{SerialNumber}
use Rattle.ee_desk_model.specs.declared.changes.Held.{Held}
use Rattle.ee_desk_model.specs.declared.replies.Ticket.{Ticket}
use Rattle.ee_desk_model.specs.PlainBooks.{ticket_of}
use Rattle.ee_desk_model.specs.Seen.{held_as}
use Rattle.ee_desk.proofs.PaidMarks.{get_held_bond}
use Rattle.ee_desk.specs.Inner.Marks.{held_at, bonds_held}

held_marked : (tickets : List Ticket) (q : SerialNumber) (o : Option Held) → IfSome o (λ h. h.ticket ≡ ticket_of tickets q) → option_map (held_as tickets q) (option_map (λ h. h.bond) o) ≡ o
held_marked tickets q None h = refl
held_marked tickets q (Some held) h = ap (λ t. Some (record { bond = held.bond; ticket = t })) (sym h)

-- what is kept of a serial is what the books hold
pub held_is : (bonds : List (SerialNumber × Held)) (tickets : List Ticket) (q : SerialNumber) → IfSome (held_at bonds q) (λ h. h.ticket ≡ ticket_of tickets q)
    → option_map (held_as tickets q) (finite.get (bonds_held bonds) q) ≡ held_at bonds q
held_is bonds tickets q h = ap (option_map (held_as tickets q)) (get_held_bond bonds q) ∙ held_marked tickets q (held_at bonds q) h
