use Rattle.std.proofs.Common.{ap, sym, ◌∙◌}
use Rattle.std.specs.FinMap.{nat_cmp-IsAntisymmetric}
use Rattle.std.specs.Cmp.{nat_cmp_total}
use Rattle.ee_desk_decide.specs.Noted.{rates_in}
use Rattle.ee_desk_decide.specs.Inner.NewRows.{rate_row}
use Rattle.ee_desk.specs.Inner.Added.{without_row}
use Rattle.ee_desk.proofs.Added.{taken_out}
use Rattle.ee_desk.proofs.additions.take_rate.Goals as goal

pub returns-in-Rates : goal.returns-in-Rates
returns-in-Rates c =
    taken_out nat_cmp_total nat_cmp-IsAntisymmetric _ _ _ c.remove.ensures.updates.0 ∙ ap (λ x. without_row (rates_in c.args.rates.now.entries) (rate_row x)) (sym c.in-Rates.is)
