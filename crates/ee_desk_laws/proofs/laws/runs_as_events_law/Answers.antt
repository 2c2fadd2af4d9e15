use Rattle.ee_desk_laws.proofs.Served.{told_by_run, run_happens}
use Rattle.ee_desk_laws.proofs.laws.runs_as_events_law.Goals as goal

pub returns-clause-told : goal.returns-clause-told
returns-clause-told c = told_by_run

pub returns-clause-events : goal.returns-clause-events
returns-clause-events c = run_happens
