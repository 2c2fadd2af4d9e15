use Rattle.std.proofs.Common.{◌∙◌}
use Rattle.ee_desk.proofs.HeldRows.{held_more}
use Rattle.ee_desk.proofs.parts.held_map.Goals as goal

pub loop-held-preserved : goal.loop-held-preserved
loop-held-preserved c =
    c.in_ok-insert.ensures.entries
    ∙ held_more c.args.rows.now c.loop-held.held-index c.held-item.result c.loop-held.map.entries c.requires c.loop-held-test.true c.held-item.is c.loop-held.invariant
