use Rattle.std.proofs.Common.{arith, rules}
use Rattle.std.proofs.lemmas.Grind.{common_steps}
use Rattle.ee_desk.proofs.queries.own_bonds.Goals as goal

pub loop-held-preserved : goal.loop-held-preserved
loop-held-preserved c = search rules

pub loop-held-preserved-then-is_none : goal.loop-held-preserved-then-is_none
loop-held-preserved-then-is_none c = grind (arith, common_steps)
