use Rattle.std.proofs.Common.{sym, subst}
use Rattle.ee_desk_model.specs.UnitTables.{AreOwn}
use Rattle.ee_desk_model.proofs.KeptTables.{none_own}
use Rattle.ee_desk_model.proofs.unit_tables.UnitTables.new.Goals as goal

pub invariant_of-result : goal.invariant_of-result
invariant_of-result c = subst AreOwn (sym c.nothing.ensures) none_own
