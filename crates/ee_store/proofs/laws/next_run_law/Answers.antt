use Rattle.ee_store.proofs.NextRun.{follows_in_next_run, waits_in_next_run}
use Rattle.ee_store.proofs.laws.next_run_law.Goals as goal

pub returns-clause-follows : goal.returns-clause-follows
returns-clause-follows g c = follows_in_next_run g.D.Disk g.E.Disk

pub returns-clause-waits : goal.returns-clause-waits
returns-clause-waits g c = waits_in_next_run g.D.Disk g.E.Disk
