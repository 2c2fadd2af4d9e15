use Rattle.std.proofs.Common.{◌≡◌, ◌++◌, ◌-◌, ◌+◌, ◌≤◌, List, ℕ, Some, length}
use Rattle.ee_io.proofs.reading.read_whole.Given as goal

-- what was read, and then what is left
abbrev pub invariant-loop-chunk : goal.invariant-loop-chunk
invariant-loop-chunk g l = (length l.bytes.items ≤ l.fn.most + 1) × ((source : List ℕ) → g.R.Read.remaining l.fn.reader ≡ Some source → (rest : List ℕ) × (g.R.Read.remaining l.reader ≡ Some rest) × (source ≡ l.bytes.items ++ rest))

abbrev pub decreases-loop-chunk : goal.decreases-loop-chunk
decreases-loop-chunk g l = l.fn.most + 1 - length l.bytes.items
