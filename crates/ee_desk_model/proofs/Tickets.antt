-- The ticket that pays a serial number, if one ticket more was made.
use Rattle.std.proofs.Common.{◌≡◌, ◌||◌, Bool, true, false, cond, List, [], ◌∷◌, ◌++◌, Option, Some, None, true≢false, refl, sym, ap, ◌∙◌}
use Rattle.std.specs.Option.{option_map, option_or}
use Rattle.std.specs.List.{AllByRecursion, find, list_any}
use Rattle.ee_units.specs.Spelling.{SerialNumber}
use Rattle.ee_desk_model.specs.declared.replies.Line.{Line}
use Rattle.ee_desk_model.specs.declared.replies.Ticket.{Ticket}
use Rattle.ee_desk_model.specs.Serials.{same_serial}
use Rattle.ee_desk_model.specs.PlainBooks.{ticket_of, names}
use Rattle.ee_desk_model.proofs.Maps.{serial_is}

or_push : (b c : Bool) (t u : Ticket) (o p : Option Ticket) → option_map (λ x. x.ticket) o ≡ option_or (option_map (λ x. x.ticket) p) (cond c (Some t.ticket) None)
    → option_map (λ x. x.ticket) (cond b (Some u) o) ≡ option_or (option_map (λ x. x.ticket) (cond b (Some u) p)) (cond c (Some t.ticket) None)
or_push true c t u o p h = refl
or_push false c t u o p h = h

last_named : (b : Bool) (t : Ticket) → option_map (λ x. x.ticket) (cond b (Some t) None) ≡ cond b (Some t.ticket) None
last_named true t = refl
last_named false t = refl

pub ticket_of_push : (tickets : List Ticket) (t : Ticket) (q : SerialNumber) → ticket_of (tickets ++ t ∷ []) q ≡ option_or (ticket_of tickets q) (cond (names q t) (Some t.ticket) None)
ticket_of_push [] t q = last_named (names q t) t
ticket_of_push (u ∷ tickets) t q = or_push (names q u) (names q t) t u (find (names q) (tickets ++ t ∷ [])) (find (names q) tickets) (ticket_of_push tickets t q)

-- what one of unpaid lines names is unpaid
pub unpaid_of : (tickets : List Ticket) (q : SerialNumber) (lines : List Line) → AllByRecursion (λ line. ticket_of tickets line.serial ≡ None) lines
    → list_any (λ line. same_serial q line.serial) lines ≡ true → ticket_of tickets q ≡ None
unpaid_of tickets q [] h e = absurd (true≢false (sym e))
unpaid_of tickets q (line ∷ lines) h e = by_case (unpaid_of tickets q lines h.1) (same_serial q line.serial) refl e
  where
    by_case : (list_any (λ l. same_serial q l.serial) lines ≡ true → ticket_of tickets q ≡ None) → (b : Bool) → same_serial q line.serial ≡ b → (b || list_any (λ l. same_serial q l.serial) lines) ≡ true → ticket_of tickets q ≡ None
    by_case later true same any = ap (ticket_of tickets) (serial_is q line.serial same) ∙ h.0
    by_case later false apart any = later any
