use Rattle.std.proofs.Common.{rules}
use Rattle.ee_counter.proofs.files.export_inventory.Goals as goal

pub returns-in-Ok-write_inventory-clause-exports : goal.returns-in-Ok-write_inventory-clause-exports
returns-in-Ok-write_inventory-clause-exports g c = search rules
