use Rattle.std.proofs.Common.{take}
use Rattle.std.specs.List.{list_any}
use Rattle.ee_desk_model.specs.Serials.{same_serial}
use Rattle.ee_desk.proofs.PaidMarks.{same_bonds}
use Rattle.ee_desk.proofs.marks.mark_all.Goals as goal

pub returns-clause-bonds : goal.returns-clause-bonds
returns-clause-bonds c = same_bonds _ _ (λ q. list_any (λ line. same_serial q line.serial) (take c.loop-line.line-index c.args.lines.now)) c.args.ticket c.loop-line.invariant
