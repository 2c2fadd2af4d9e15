use Rattle.std.proofs.Common.{◌≡◌, take}
use Rattle.std.specs.Prelude.{count_by}
use Rattle.ee_desk_soundness.specs.Inner.Marks.{is_marked}
use Rattle.ee_desk_soundness.proofs.rows.marked.Given as goal

abbrev pub invariant-loop-held : goal.invariant-loop-held
invariant-loop-held l = l.count ≡ count_by is_marked (take l.held-index l.rows)
