use Rattle.ee_desk_laws.proofs.Survival.{survives}
use Rattle.ee_desk_laws.proofs.Retries.{acknowledged_done, settles, leads_on}
use Rattle.ee_desk_laws.proofs.laws.stops_and_retries_law.Goals as goal

pub returns-clause-survives : goal.returns-clause-survives
returns-clause-survives c = survives

pub returns-clause-acknowledged : goal.returns-clause-acknowledged
returns-clause-acknowledged c = acknowledged_done

pub returns-clause-settles : goal.returns-clause-settles
returns-clause-settles c = settles

pub returns-clause-leads_on : goal.returns-clause-leads_on
returns-clause-leads_on c = leads_on
