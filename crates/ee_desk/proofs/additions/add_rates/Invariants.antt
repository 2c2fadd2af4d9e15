use Rattle.std.proofs.Common.{◌≡◌, take}
use Rattle.ee_desk_decide.specs.Noted.{rates_in}
use Rattle.ee_desk_decide.specs.Inner.NewRows.{rate_row}
use Rattle.ee_desk.specs.Inner.Added.{with_changes}
use Rattle.ee_desk.proofs.additions.add_rates.Given as goal

abbrev pub invariant-loop-i : goal.invariant-loop-i
invariant-loop-i l = rates_in l.rates.entries ≡ with_changes rate_row (rates_in l.fn.rates.entries) (take l.i l.changes)
