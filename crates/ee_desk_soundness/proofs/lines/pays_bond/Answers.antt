use Rattle.std.proofs.Common.{◌≡◌, true, Some, None, ◌∙◌, rules}
use Rattle.std.specs.FinMap as finite
use Rattle.std.specs.Map.{lookup}
use Rattle.std.specs.BTreeMap.{is_at}
use Rattle.std.specs.Ordering.{nat_cmp}
use Rattle.std.specs.Cmp.{nat_cmp_total}
use Rattle.ee_units.specs.Calendar.{period_start}
use Rattle.ee_desk_model.proofs.Lemmas.Maps.{get_lookup}
use Rattle.ee_calculator.specs.Bonds.{is_payee}
use Rattle.ee_desk_soundness.proofs.LinePays.{pays_if, no_terms}
use Rattle.ee_desk_soundness.proofs.lines.pays_bond.Goals as goal

pub returns-then-is_payee : goal.returns-then-is_payee
returns-then-is_payee c =
    let e : lookup (is_at (nat_cmp (period_start c.args.bond.now.issued))) c.args.rates.now.entries ≡ Some c.in-Some.terms.now = search rules in
    let paid : is_payee c.args.bond.now c.args.ticket.now.payee ≡ true = search rules in
    pays_if (finite.from_entries c.args.rates.now.entries) c.args.bond.now c.args.ticket.now c.args.line.now c.in-Some.terms.now c.month_of.result c.is_worth.result
    (get_lookup nat_cmp_total c.args.rates.now.entries (period_start c.args.bond.now.issued) ∙ e) paid c.month_of.ensures c.is_worth.ensures

pub returns-in-None : goal.returns-in-None
returns-in-None c =
    let e : lookup (is_at (nat_cmp (period_start c.args.bond.now.issued))) c.args.rates.now.entries ≡ None = search rules in
    (λ t. absurd (cc), λ p. absurd (no_terms (finite.from_entries c.args.rates.now.entries) c.args.bond.now c.args.ticket.now c.args.line.now (get_lookup nat_cmp_total c.args.rates.now.entries (period_start c.args.bond.now.issued) ∙ e) p))
