use Rattle.std.proofs.Common.{◌≡◌, ◌++◌, map}
use Rattle.ee_desk_soundness.specs.Parts.{row_of_entry}
use Rattle.ee_desk.proofs.parts.rate_rows.Given as goal

abbrev pub invariant-loop-from : goal.invariant-loop-from
invariant-loop-from l = l.rows.items ++ map row_of_entry l.from-iterator ≡ map row_of_entry l.terms.entries
