use Rattle.std.proofs.Common.{◌≢◌, ◌<◌, ℕ, slice_index}
use Rattle.ee_store_files.proofs.damage.is_replaced.Given as goal

abbrev pub invariant-loop-j : goal.invariant-loop-j
invariant-loop-j l = (j : ℕ) → l.fn.i < j → j < l.j → slice_index l.numbers j ≢ slice_index l.numbers l.fn.i
