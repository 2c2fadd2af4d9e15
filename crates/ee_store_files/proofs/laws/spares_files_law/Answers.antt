use Rattle.ee_store_files.proofs.Orphaned.{spares_held, spares_present}
use Rattle.ee_store_files.proofs.laws.spares_files_law.Goals as goal

pub returns-clause-held : goal.returns-clause-held
returns-clause-held g c = spares_held

pub returns-clause-present : goal.returns-clause-present
returns-clause-present g c = spares_present g.D.Disk g.met.D.Disk.seen_may_stay
