use Rattle.std.proofs.Common.{rules}
use Rattle.ee_store_delivery.proofs.view.view_in.Goals as goal

pub returns-in-Some-clause-found : goal.returns-in-Some-clause-found
returns-in-Some-clause-found g c = search rules

pub returns-in-None-clause-found : goal.returns-in-None-clause-found
returns-in-None-clause-found g c = search rules
