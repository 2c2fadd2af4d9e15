use Rattle.std.proofs.Common.{◌≡◌, length}
use Rattle.sqlite_wal.specs.Reads.{IsClean, OnlyReads}
use Rattle.ee_store_files.proofs.Frames.{Walked}
use Rattle.ee_store_files.proofs.damage.has_two_more.Given as goal

abbrev pub invariant-loop-i : goal.invariant-loop-i
invariant-loop-i g l = record {
  reads : OnlyReads g.D.Disk l.fn.log l.log;
  counts : g.D.Disk.faults l.log ≡ g.D.Disk.faults l.fn.log;
  len : IsClean g.D.Disk l.log → l.len ≡ length (g.D.Disk.seen l.fn.log);
  walked : IsClean g.D.Disk l.log → Walked l.has_one l.page_size (g.D.Disk.seen l.fn.log) l.from l.i;
}
