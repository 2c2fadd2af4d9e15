use Rattle.std.proofs.Common.{◌+◌, ◌≤◌, ℕ, length, slice_index, sym, subst, ◌∙◌, inl, inr, arith}
use Rattle.std.proofs.lemmas.Bool.{false≢true, cases_Bool, not_from_true, not_from_false, iff_false}
use Rattle.std.proofs.lemmas.Result.{err_from_is_err_and}
use Rattle.sqlite_wal.specs.PageSize.{bytes_of}
use Rattle.ee_store_files.proofs.Failing.{frames_before}
use Rattle.ee_store_files.proofs.Frames.{lacks_by, not_replaced}
use Rattle.ee_store_files.proofs.damage.lacks_sum.Goals as goal

pub returns-clause-ok : goal.returns-clause-ok
returns-clause-ok g c clean =
    let log = g.D.Disk.seen c.args.log.now in
    let size = bytes_of c.args.size in
    let numbers = c.args.numbers.now in
    let are = c.requires.numbers (c.is_summed_at.ensures.same.clean clean) in
    let kept = subst (λ (n : ℕ). slice_index numbers c.args.i ≤ n) (c.requires.count (c.is_summed_at.ensures.same.clean clean)) c.if-numbers-i.false in
    let summed = iff_false (c.in_ok-is_summed_at.ensures.ok clean) c.if-branch.false in
    let replaced = c.is_replaced.ensures in (
      λ is. lacks_by size log numbers c.args.i are c.requires.low kept summed (λ later. false≢true (sym (not_from_true _ (replaced.1 later)) ∙ is)),
      λ it. elim (cases_Bool c.is_replaced.result) [
        | inl yes' ↦ absurd (not_replaced size log numbers c.args.i are c.requires.low it (replaced.0 yes'))
        | inr no' ↦ not_from_false _ no'
      ],
    )

pub returns-in_err-is_summed_at-clause-faults : goal.returns-in_err-is_summed_at-clause-faults
returns-in_err-is_summed_at-clause-faults g c =
    let p = err_from_is_err_and c.from_residual.result c.from_residual.ensures.1 in
    let read = c.in_err-is_summed_at.ensures.faults in
    let below = frames_before (bytes_of c.args.size) (c.args.i + 1) (length c.args.numbers.now) (omega (arith, c.requires.low)) in
    rw p.1 (λ within. read.0 (λ clean. omega (arith, within clean)), read.1)
