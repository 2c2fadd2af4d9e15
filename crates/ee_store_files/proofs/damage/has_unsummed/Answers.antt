use Rattle.std.proofs.Common.{arith, ap, length, List}
use Rattle.ee_store_files.proofs.Failing.{by_fault}
use Rattle.ee_store_files.proofs.damage.has_unsummed.Goals as goal

pub returns-in-Err-clause-cause : goal.returns-in-Err-clause-cause
returns-in-Err-clause-cause g c clean within =
    let same = c.loop-i.invariant.reads.seen in
    by_fault _ _ _ (omega (arith, c.in-Err.ensures.faults.0 (λ _. omega (arith, within, ap (λ (l : List _). length l) same)), c.loop-i.invariant.counts))
