use Rattle.std.proofs.Common.{◌≡◌, sym, ap, ◌∙◌, rules}
use Rattle.std.specs.Option.{is_some}
use Rattle.std.specs.Map.{lookup}
use Rattle.std.specs.BTreeMap.{is_at}
use Rattle.std.specs.Ordering.{nat_cmp}
use Rattle.std.specs.Cmp.{nat_cmp_total}
use Rattle.ee_units.specs.Calendar.{period_start}
use Rattle.ee_desk_model.proofs.Lemmas.Maps.{get_lookup}
use Rattle.ee_desk_soundness.proofs.register.is_rated.Goals as goal

pub returns : goal.returns
returns c =
    let e : c.contains_key.result ≡ is_some (lookup (is_at (nat_cmp (period_start c.args.bond.now.issued))) c.args.rates.now.entries) = search rules in
    e ∙ ap is_some (sym (get_lookup nat_cmp_total c.args.rates.now.entries (period_start c.args.bond.now.issued)))
