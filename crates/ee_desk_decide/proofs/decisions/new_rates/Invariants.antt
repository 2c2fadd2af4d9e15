use Rattle.std.proofs.Common.{◌≡◌, ◌≤◌, ◌++◌, [], map, length, take, drop}
use Rattle.ee_desk_model.specs.Effects as is
use Rattle.ee_desk_model.specs.Views.{shown_by}
use Rattle.ee_desk_decide.proofs.decisions.new_rates.Given as goal

abbrev pub invariant-loop-i : goal.invariant-loop-i
invariant-loop-i l = record {
  changes : l.changes.items ++ map is.rate_change (is.new_rates (shown_by l.view) (take l.i l.rows) (drop l.i l.rows)) ≡ map is.rate_change (is.new_rates (shown_by l.view) [] l.rows);
  few : length l.changes.items ≤ l.i;
}
