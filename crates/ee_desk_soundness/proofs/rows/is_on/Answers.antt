use Rattle.std.proofs.Common.{◌≡◌, ◌↔◌, true, true≢false, find, Option, Some, None, sym, ap, ◌∙◌, subst, rules}
use Rattle.std.specs.Option.{IsSomeAnd}
use Rattle.std.specs.FinMap as finite
use Rattle.ee_desk_model.specs.declared.replies.Line.{Line}
use Rattle.ee_desk_model.specs.Serials.{same_serial}
use Rattle.ee_desk_soundness.specs.Inner.Checks.{PaysBond}
use Rattle.ee_desk_soundness.proofs.rows.is_on.Goals as goal

pub returns-in-Some : goal.returns-in-Some
returns-in-Some c =
    let found : find (λ (line : Line). same_serial c.args.bond.now.serial line.serial) c.as_slice.result.now ≡ Some c.in-Some.line = search rules in
    let here = ap (find (λ (line : Line). same_serial c.args.bond.now.serial line.serial)) (sym c.as_slice.ensures) ∙ found in
    subst (λ (o : Option Line). (c.pays_bond.result ≡ true) ↔ IsSomeAnd o (PaysBond (finite.from_entries c.args.rates.now.entries) c.args.bond.now c.args.ticket.now)) (sym here) c.pays_bond.ensures

pub returns-in-None : goal.returns-in-None
returns-in-None c =
    let found : find (λ (line : Line). same_serial c.args.bond.now.serial line.serial) c.as_slice.result.now ≡ None = search rules in
    let here = ap (find (λ (line : Line). same_serial c.args.bond.now.serial line.serial)) (sym c.as_slice.ensures) ∙ found in
    (λ e. absurd (true≢false (sym e)), λ h. absurd (subst (λ (o : Option Line). IsSomeAnd o (PaysBond (finite.from_entries c.args.rates.now.entries) c.args.bond.now c.args.ticket.now)) here h))
