use Rattle.ee_store.proofs.History.{begins_history, begins_in_files, opens_history, has_held, waits_in_files, waits_refused, goes_by_queries, leaves_history, hold_at_rest, rests_history, has_history, hold_history, settles_history}
use Rattle.ee_store.proofs.laws.whole_history_law.Goals as goal

pub returns-clause-begins : goal.returns-clause-begins
returns-clause-begins g c = begins_history g.D.Disk

pub returns-clause-found : goal.returns-clause-found
returns-clause-found g c = begins_in_files

pub returns-clause-opens : goal.returns-clause-opens
returns-clause-opens g c = opens_history g.D.Disk c.holding_law.ensures.finds c.holding_law.ensures.none

pub returns-clause-has : goal.returns-clause-has
returns-clause-has g c = has_held g.D.Disk c.holding_law.ensures.finds c.holding_law.ensures.none

pub returns-clause-waits : goal.returns-clause-waits
returns-clause-waits g c = waits_in_files

pub returns-clause-refused : goal.returns-clause-refused
returns-clause-refused g c = waits_refused g.D.Disk c.holding_law.ensures.takes c.holding_law.ensures.finds c.holding_law.ensures.none g.met.D.Disk.seen_may_stay

pub returns-clause-queries : goal.returns-clause-queries
returns-clause-queries g c = goes_by_queries g.D.Disk

pub returns-clause-leaves : goal.returns-clause-leaves
returns-clause-leaves g c = leaves_history g.D.Disk c.holding_law.ensures.takes

pub returns-clause-at_rest : goal.returns-clause-at_rest
returns-clause-at_rest g c = hold_at_rest g.D.Disk c.holding_law.ensures.takes

pub returns-clause-rests : goal.returns-clause-rests
returns-clause-rests g c = rests_history g.D.Disk c.holding_law.ensures.takes

pub returns-clause-content : goal.returns-clause-content
returns-clause-content g c = has_history g.D.Disk c.stops_and_retries_law.ensures.survives

pub returns-clause-files : goal.returns-clause-files
returns-clause-files g c = hold_history c.stops_and_retries_law.ensures.survives

pub returns-clause-settled : goal.returns-clause-settled
returns-clause-settled g c = settles_history g.D.Disk c.stops_and_retries_law.ensures.settles
