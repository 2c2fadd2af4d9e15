use Rattle.std.proofs.Common.{◌≡◌, true, map, refl, rules}
use Rattle.std.specs.Result.{IfErr}
use Rattle.std.proofs.lemmas.Result.{IfErr-weaker}
use Rattle.ee_desk_soundness.specs.declared.faults.PartsFault.TheVariants.{Unsound}
use Rattle.ee_desk_soundness.specs.Marks.{bond_of}
use Rattle.ee_desk_soundness.specs.Checks.{parts_in}
use Rattle.ee_desk_soundness.specs.Inner.Checks.{IsRegister, AreClosed}
use Rattle.ee_desk_soundness.proofs.Making.{small, marks_right, made_is, not_paid, not_register, not_closed}
use Rattle.ee_desk_soundness.proofs.checks.checked.Goals as goal

pub returns-in_err-own-clause-unsound : goal.returns-in_err-own-clause-unsound
returns-in_err-own-clause-unsound c =
    let never : IfErr c.from_residual.result (λ fault. fault ≡ Unsound → IsRegister c.args.rates.now (map bond_of c.args.bonds.now) → ⊥) = search rules in
    IfErr-weaker c.from_residual.result _ _ (λ fault h e marked. not_register (parts_in c.args.rates.now (map bond_of c.args.bonds.now) c.args.day c.args.last c.args.tickets.now c.args.batches.now) (h e)) never

pub returns-then-not-are_paid-clause-unsound : goal.returns-then-not-are_paid-clause-unsound
returns-then-not-are_paid-clause-unsound c =
    λ e marked. not_paid c.args.rates.now c.args.bonds.now c.args.day c.args.last c.args.tickets.now c.args.batches.now c.in_ok-own.own.terms.entries c.in_ok-own.ensures.terms (λ paid. let full = c.are_paid.ensures.1 paid in absurd (search rules)) marked

pub closed-requires : goal.closed-requires
closed-requires c =
    let holds : c.are_paid.result ≡ true = search rules in
    small c.args.rates.now c.args.bonds.now c.args.day c.args.last c.args.tickets.now c.args.batches.now c.in_ok-own.own.terms.entries c.in_ok-own.ensures.terms c.in_ok-own.ensures.right (c.are_paid.ensures.0 holds)

pub returns-in_err-counts-clause-unsound : goal.returns-in_err-counts-clause-unsound
returns-in_err-counts-clause-unsound c =
    let never : IfErr c.from_residual-in_err-counts.result (λ fault. fault ≡ Unsound → AreClosed c.args.tickets.now c.args.batches.now c.args.day c.args.last → ⊥) = search rules in
    IfErr-weaker c.from_residual-in_err-counts.result _ _ (λ fault h e marked. not_closed (parts_in c.args.rates.now (map bond_of c.args.bonds.now) c.args.day c.args.last c.args.tickets.now c.args.batches.now) (h e)) never

pub returns-clause-ok : goal.returns-clause-ok
returns-clause-ok c =
    let holds : c.are_paid.result ≡ true = search rules in
    made_is c.args.rates.now c.args.bonds.now c.args.day c.args.last c.args.tickets.now c.args.batches.now c.in_ok-own.own.terms.entries c.in_ok-own.ensures.terms _ refl c.in_ok-own.ensures.right (c.are_paid.ensures.0 holds) c.in_ok-counts.ensures.right c.in_range.ensures c.in_ok-counts.ensures.counts

pub returns-clause-marked : goal.returns-clause-marked
returns-clause-marked c =
    let holds : c.are_paid.result ≡ true = search rules in
    marks_right c.args.rates.now c.args.bonds.now c.args.day c.args.last c.args.tickets.now c.args.batches.now c.in_ok-own.own.terms.entries c.in_ok-own.ensures.terms c.in_ok-own.ensures.right (c.are_paid.ensures.0 holds)
