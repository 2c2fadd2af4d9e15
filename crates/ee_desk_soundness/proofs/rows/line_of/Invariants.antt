use Rattle.std.proofs.Common.{◌≡◌, drop, find}
use Rattle.ee_desk_model.specs.Serials.{same_serial}
use Rattle.ee_desk_soundness.proofs.rows.line_of.Given as goal

abbrev pub invariant-loop-line : goal.invariant-loop-line
invariant-loop-line l = find (λ line. same_serial l.serial line.serial) (drop l.line-index l.lines) ≡ find (λ line. same_serial l.serial line.serial) l.lines
