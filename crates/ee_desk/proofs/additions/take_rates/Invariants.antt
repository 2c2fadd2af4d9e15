use Rattle.std.proofs.Common.{◌≡◌, drop}
use Rattle.ee_desk_decide.specs.Noted.{rates_in}
use Rattle.ee_desk_decide.specs.Inner.NewRows.{rate_row}
use Rattle.ee_desk.specs.Inner.Added.{without_changes}
use Rattle.ee_desk.proofs.additions.take_rates.Given as goal

abbrev pub invariant-loop-change : goal.invariant-loop-change
invariant-loop-change l = without_changes rate_row (rates_in l.rates.entries) (drop l.change-index l.changes) ≡ without_changes rate_row (rates_in l.fn.rates.entries) l.changes
