use Rattle.std.proofs.Common.{◌≡◌, ◌<◌, ℕ, length}
use Rattle.sqlite_wal.specs.PageSize.{bytes_of}
use Rattle.sqlite_wal.specs.Reads.{IsClean, OnlyReads}
use Rattle.ee_store_files.specs.Damage.{size_after, LacksSum}
use Rattle.ee_store_files.proofs.damage.has_unsummed.Given as goal

abbrev pub invariant-loop-i : goal.invariant-loop-i
invariant-loop-i g l = record {
  reads : OnlyReads g.D.Disk l.fn.log l.log;
  counts : g.D.Disk.faults l.log ≡ g.D.Disk.faults l.fn.log;
  count : IsClean g.D.Disk l.log → l.count ≡ size_after (bytes_of l.size) (g.D.Disk.seen l.fn.log) (length l.numbers);
  page : length l.page.items ≡ bytes_of l.size;
  none : IsClean g.D.Disk l.log → (j : ℕ) → j < l.i → ¬ LacksSum (bytes_of l.size) (g.D.Disk.seen l.fn.log) (length l.numbers) j;
}
