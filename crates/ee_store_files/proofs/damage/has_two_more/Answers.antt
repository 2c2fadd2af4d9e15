use Rattle.std.proofs.Common.{arith, inr, refl}
use Rattle.ee_store_files.proofs.Failing.{by_fault, long_by}
use Rattle.ee_store_files.proofs.damage.has_two_more.Goals as goal

pub returns-in-Err-clause-cause : goal.returns-in-Err-clause-cause
returns-in-Err-clause-cause g c clean within = by_fault _ _ _ (omega (arith, c.in-Err.ensures.faults.0, c.loop-i.invariant.counts))

pub returns-clause-cause : goal.returns-clause-cause
returns-clause-cause g c clean within =
    inr (inr (refl, long_by c.args.page_size c.args.from c.loop-i.i (g.D.Disk.seen c.args.log.now) c.loop-i-test.false (c.loop-i.invariant.walked clean).are_open within))
