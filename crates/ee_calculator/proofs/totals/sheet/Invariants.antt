use Rattle.std.proofs.Common.{◌≡◌, ◌+◌, ◌*◌, ◌≤◌, ◌^◌, sum_by, take}
use Rattle.ee_calculator.proofs.totals.sheet.Given as goal

abbrev pub invariant-loop-row : goal.invariant-loop-row
invariant-loop-row l =
    (l.price ≡ sum_by (λ r. r.price.0) (take l.row-index l.fn.rows.items))
    × (l.interest ≡ sum_by (λ r. r.interest.0) (take l.row-index l.fn.rows.items))
    × (l.price + l.interest ≡ sum_by (λ r. r.value.0) (take l.row-index l.fn.rows.items))
    × (l.price ≤ l.row-index * 2 ^ 64) × (l.interest ≤ l.row-index * 2 ^ 64)
