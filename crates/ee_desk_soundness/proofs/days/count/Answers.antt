use Rattle.std.proofs.Common.{rules}
use Rattle.ee_desk_soundness.proofs.Counts.{count_one}
use Rattle.ee_desk_soundness.proofs.days.count.Goals as goal

pub returns-in-Some : goal.returns-in-Some
returns-in-Some c =
    count_one _ _ c.args.ticket.now c.in-Some.own.now _ (search rules) (search rules) (λ q. ((c.get_mut.follows.holds _).3 (search rules)).0 q)
