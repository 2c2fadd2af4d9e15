use Rattle.std.proofs.Common.{◌≡◌, drop}
use Rattle.ee_desk_model.specs.Refusals as is
use Rattle.ee_desk_model.specs.Views.{shown_by}
use Rattle.ee_desk_decide.proofs.checks.first_bond_conflict.Given as goal

abbrev pub invariant-loop-bond : goal.invariant-loop-bond
invariant-loop-bond l = is.first_of (is.bond_conflict (shown_by l.view)) (drop l.bond-index l.bonds) ≡ is.first_of (is.bond_conflict (shown_by l.view)) l.bonds
