use Rattle.std.proofs.Common.{◌≡◌, ◌+◌, ◌<◌, ℕ, length}
use Rattle.sqlite_wal.specs.Reads.{IsClean, OnlyReads}
use Rattle.ee_store_files.specs.Inner.Damage.{IsFrameAt}
use Rattle.ee_store_files.proofs.Frames.{AreUncounted}
use Rattle.ee_store_files.proofs.damage.finds_count.Given as goal

abbrev pub invariant-loop-i : goal.invariant-loop-i
invariant-loop-i g l = record {
  reads : OnlyReads g.D.Disk l.fn.log l.log;
  counts : g.D.Disk.faults l.log ≡ g.D.Disk.faults l.fn.log;
  len : IsClean g.D.Disk l.log → l.len ≡ length (g.D.Disk.seen l.fn.log);
  room : length l.frame ≡ 24 + l.page_size;
  past : l.from < l.i;
  before : IsClean g.D.Disk l.log → (j : ℕ) → j + 1 ≡ l.i → IsFrameAt l.page_size (g.D.Disk.seen l.fn.log) j l.frame;
  none : IsClean g.D.Disk l.log → AreUncounted l.is_doubted l.in_file l.page_size (g.D.Disk.seen l.fn.log) l.from l.i;
}
