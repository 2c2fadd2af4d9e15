use Rattle.std.proofs.Common.{rules}
use Rattle.ee_store_rows.proofs.bonds.held_from.Goals as goal

pub returns-clause-shown : goal.returns-clause-shown
returns-clause-shown c = search rules
