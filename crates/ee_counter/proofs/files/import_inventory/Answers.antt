use Rattle.std.proofs.Common.{rules}
use Rattle.ee_counter.proofs.files.import_inventory.Goals as goal

pub returns-clause-imports : goal.returns-clause-imports
returns-clause-imports g c = search rules

pub returns-in-Ok-deliver-clause-imports : goal.returns-in-Ok-deliver-clause-imports
returns-in-Ok-deliver-clause-imports g c = search rules
