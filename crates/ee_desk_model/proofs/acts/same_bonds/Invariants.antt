use Rattle.std.proofs.Common.{◌≡◌, drop, length}
use Rattle.std.specs.Cmp.Lexicographic.{pointwise}
use Rattle.ee_desk_model.specs.PlainBooks.{same_bond}
use Rattle.ee_desk_model.proofs.acts.same_bonds.Given as goal

abbrev pub invariant-loop-i : goal.invariant-loop-i
invariant-loop-i l = record {
  left : pointwise same_bond (drop l.i l.one) (drop l.i l.other) ≡ pointwise same_bond l.one l.other;
  long : length l.one ≡ length l.other;
}
