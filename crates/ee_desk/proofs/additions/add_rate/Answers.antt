use Rattle.std.proofs.Common.{ap, sym, ◌∙◌}
use Rattle.std.specs.FinMap as finite
use Rattle.std.specs.FinMap.{nat_cmp-IsAntisymmetric}
use Rattle.std.specs.Cmp.{nat_cmp_total}
use Rattle.ee_desk_model.proofs.Lemmas.Maps.{map_with_one_more}
use Rattle.ee_desk_decide.specs.Noted.{rates_in}
use Rattle.ee_desk_decide.specs.Inner.NewRows.{rate_row, with_row}
use Rattle.ee_desk.proofs.additions.add_rate.Goals as goal

pub returns-in_ok-insert-clause-ok : goal.returns-in_ok-insert-clause-ok
returns-in_ok-insert-clause-ok c =
    map_with_one_more nat_cmp_total nat_cmp-IsAntisymmetric _ _ _ _ c.in_ok-insert.ensures.updates.0
    ∙ ap (finite.insert (rates_in c.args.rates.now.entries) _) c.in_ok-kept.ensures.value
    ∙ ap (λ x. with_row (rates_in c.args.rates.now.entries) (rate_row x)) (sym c.in-Rates.is)
