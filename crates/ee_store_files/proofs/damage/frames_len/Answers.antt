use Rattle.std.proofs.Common.{refl}
use Rattle.sqlite_wal.specs.Recovery.{frames_len}
use Rattle.ee_store_files.proofs.damage.frames_len.Goals as goal

pub returns-clause-len : goal.returns-clause-len
unfolding frames_len
returns-clause-len c = refl
