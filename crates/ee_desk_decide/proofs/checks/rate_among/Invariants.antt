use Rattle.std.proofs.Common.{◌≡◌, ◌==◌, drop, find}
use Rattle.ee_desk_decide.proofs.checks.rate_among.Given as goal

abbrev pub invariant-loop-row : goal.invariant-loop-row
invariant-loop-row l = find (λ row. row.from == l.month) (drop l.row-index l.rows) ≡ find (λ row. row.from == l.month) l.rows
