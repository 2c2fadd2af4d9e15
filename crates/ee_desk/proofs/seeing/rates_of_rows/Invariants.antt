use Rattle.std.proofs.Common.{◌≡◌, map, take}
use Rattle.std.specs.FinMap as finite
use Rattle.ee_desk_model.specs.Views.{picked}
use Rattle.ee_desk_decide.specs.Noted.{rates_in}
use Rattle.ee_desk.proofs.seeing.rates_of_rows.Given as goal

abbrev pub invariant-loop-row : goal.invariant-loop-row
invariant-loop-row l = rates_in l.found.entries ≡ picked (finite.get l.ledger.rates) (map (λ row. row.from) (take l.row-index l.rows))
