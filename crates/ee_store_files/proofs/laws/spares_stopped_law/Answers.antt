use Rattle.ee_store_files.proofs.Stops.{spares_stopped, spares_summed, spares_store, spares_open, spares_synced, spares_one_sync}
use Rattle.ee_store_files.proofs.Counts.{none_synced, none_at_once, begins, begins_synced}
use Rattle.ee_store_files.proofs.laws.spares_stopped_law.Goals as goal

pub returns-clause-stopped : goal.returns-clause-stopped
returns-clause-stopped g c = spares_stopped

pub returns-clause-summed : goal.returns-clause-summed
returns-clause-summed g c = spares_summed

pub returns-clause-at_rest : goal.returns-clause-at_rest
returns-clause-at_rest g c = spares_store g.D.Disk g.met.D.Disk.seen_may_stay

pub returns-clause-between : goal.returns-clause-between
returns-clause-between g c = spares_open g.D.Disk

pub returns-clause-synced : goal.returns-clause-synced
returns-clause-synced g c = spares_synced g.D.Disk

pub returns-clause-at_once : goal.returns-clause-at_once
returns-clause-at_once g c = spares_one_sync g.D.Disk

pub returns-clause-counts_synced : goal.returns-clause-counts_synced
returns-clause-counts_synced g c = none_synced g.D.Disk

pub returns-clause-counts_at_once : goal.returns-clause-counts_at_once
returns-clause-counts_at_once g c = none_at_once g.D.Disk

pub returns-clause-begins : goal.returns-clause-begins
returns-clause-begins g c = begins g.D.Disk

pub returns-clause-begins_synced : goal.returns-clause-begins_synced
returns-clause-begins_synced g c = begins_synced g.D.Disk
