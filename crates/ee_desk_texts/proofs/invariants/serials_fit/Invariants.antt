use Rattle.std.proofs.Common.{drop}
use Rattle.std.specs.List.{AllByRecursion}
use Rattle.ee_desk_model.specs.Ranges.{IsSerial}
use Rattle.ee_desk_texts.proofs.invariants.serials_fit.Given as goal

abbrev pub invariant-loop-serial : goal.invariant-loop-serial
invariant-loop-serial l = AllByRecursion IsSerial (drop l.serial-index l.serials) → AllByRecursion IsSerial l.serials
