use Rattle.std.proofs.Common.{◌≡◌, ◌↔◌, ◌==◌, ℕ, ◌-◌, true, true≢false, false, find, List, Option, None, arith, sym, subst}
use Rattle.std.specs.Option.{IsSomeAnd}
use Rattle.std.specs.Ordering.{nat_cmp}
use Rattle.std.specs.FinMap as finite
use Rattle.std.specs.FinMap.{FinMap}
use Rattle.ee_value.specs.declared.rates.Rates.{Rates}
use Rattle.ee_calculator.specs.declared.bonds.Bond.{Bond}
use Rattle.ee_desk_model.specs.declared.replies.Ticket.{Ticket}
use Rattle.ee_desk_soundness.specs.Inner.Checks.{IsOn, IsPaidBy}
use Rattle.ee_desk_soundness.proofs.Places.{not_numbered, numbered_at}
use Rattle.ee_desk_soundness.proofs.rows.is_paid_by.Goals as goal

not_paid : (rates : FinMap nat_cmp Rates) (tickets : List Ticket) (bond : Bond) (number : ℕ) → find (λ (other : Ticket). other.ticket == number) tickets ≡ None → (false ≡ true) ↔ IsPaidBy rates tickets bond number
not_paid rates tickets bond number none = (λ e. absurd (true≢false (sym e)), λ h. absurd (subst (λ (o : Option Ticket). IsSomeAnd o (IsOn rates bond)) none h))

pub returns-then-number-lt1 : goal.returns-then-number-lt1
returns-then-number-lt1 c =
    let low = c.if-number-lt1.true in
    not_paid (finite.from_entries c.args.rates.now.entries) c.args.tickets.now c.args.bond.now c.args.number
    (not_numbered 1 c.args.tickets.now c.args.number c.requires (λ le. absurd (omega (arith, le, low))))

pub returns-then-place-tickets : goal.returns-then-place-tickets
returns-then-place-tickets c =
    let some = c.if-number-lt1.false in
    let high = c.if-place-tickets.true in
    not_paid (finite.from_entries c.args.rates.now.entries) c.args.tickets.now c.args.bond.now c.args.number
    (not_numbered 1 c.args.tickets.now c.args.number c.requires (λ le. omega (arith, le, some, high)))

pub returns : goal.returns
returns c =
    let some = c.if-number-lt1.false in
    let below = c.if-place-tickets.false in
    let found = numbered_at 1 c.args.tickets.now (c.args.number - 1) c.args.number c.index-tickets-place.result c.requires (omega (arith, some)) (omega (arith, below)) c.index-tickets-place.is in
    subst (λ (o : Option Ticket). (c.is_on.result ≡ true) ↔ IsSomeAnd o (IsOn (finite.from_entries c.args.rates.now.entries) c.args.bond.now)) (sym found) c.is_on.ensures
