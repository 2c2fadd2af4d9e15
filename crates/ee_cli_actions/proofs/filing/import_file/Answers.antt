use Rattle.std.proofs.Common.{rules}
use Rattle.ee_cli_actions.proofs.filing.import_file.Goals as goal

pub returns-in-Inventory-clause-imports : goal.returns-in-Inventory-clause-imports
returns-in-Inventory-clause-imports g c = search rules
