use Rattle.std.proofs.Common.{rules}
use Rattle.ee_desk.proofs.PaidMarks.{mark_one}
use Rattle.ee_desk.proofs.marks.mark.Goals as goal

pub returns-in-Some : goal.returns-in-Some
returns-in-Some c = mark_one _ _ c.args.serial c.in-Some.held.now c.args.ticket (search rules) (λ q. ((c.get_mut.follows.holds _).3 (search rules)).0 q)
