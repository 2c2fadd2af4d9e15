use Rattle.std.proofs.Common.{arith, rules}
use Rattle.std.proofs.lemmas.Grind.{common_steps}
use Rattle.ee_io.proofs.Fronts.{front_written, more_written}
use Rattle.ee_io.proofs.write_whole.Goals as goal

pub loop-rest-preserved : goal.loop-rest-preserved
loop-rest-preserved g c =
    let (front, parts, before) = c.loop-rest.invariant in
    more_written _ _ _ c.args.text.now front c.loop-rest.rest.now c.in-Ok.count parts before c.in-Ok.ensures.bytes

pub returns-in_default-clause-written : goal.returns-in_default-clause-written
returns-in_default-clause-written g c =
    let (front, parts, before) = c.loop-rest.invariant in
    front_written _ _ _ c.args.text.now front c.loop-rest.rest.now c.in-Ok.count parts before c.in-Ok.ensures.bytes (grind (arith, common_steps))

pub returns-in_default-clause-failed : goal.returns-in_default-clause-failed
returns-in_default-clause-failed g c = search rules

pub returns-in_default-2 : goal.returns-in_default-2
returns-in_default-2 g c = search rules
