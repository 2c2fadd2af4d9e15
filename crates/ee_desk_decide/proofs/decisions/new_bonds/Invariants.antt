use Rattle.std.proofs.Common.{◌≡◌, ◌≤◌, ◌++◌, map, length, drop}
use Rattle.ee_desk_model.specs.Effects as is
use Rattle.ee_desk_model.specs.declared.changes.Change.TheVariants as change
use Rattle.ee_desk_model.specs.Views.{shown_by}
use Rattle.ee_desk_decide.proofs.decisions.new_bonds.Given as goal

abbrev pub invariant-loop-bond : goal.invariant-loop-bond
invariant-loop-bond l = record {
  changes : l.changes.items ++ map change.Bond (is.new_bonds (shown_by l.view) (drop l.bond-index l.bonds)) ≡ map change.Bond (is.new_bonds (shown_by l.view) l.bonds);
  few : length l.changes.items ≤ l.bond-index;
}
