use Rattle.ee_store.proofs.Holding.{takes_held, finds_held, finds_none, leaves_held}
use Rattle.ee_store.proofs.laws.holding_law.Goals as goal

pub returns-clause-takes : goal.returns-clause-takes
returns-clause-takes g c = takes_held

pub returns-clause-finds : goal.returns-clause-finds
returns-clause-finds g c = finds_held

pub returns-clause-none : goal.returns-clause-none
returns-clause-none g c = finds_none

pub returns-clause-leaves : goal.returns-clause-leaves
returns-clause-leaves g c = leaves_held g.D.Disk
