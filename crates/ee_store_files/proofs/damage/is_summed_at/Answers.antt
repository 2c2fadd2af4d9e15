use Rattle.std.proofs.Common.{rules, arith, ◌≡◌, ◌+◌, ◌∙◌, ℕ, length, sym, ap, subst}
use Rattle.std.proofs.lemmas.Result.{err_from_is_err_and}
use Rattle.sqlite_wal.specs.Format.{part}
use Rattle.sqlite_wal.specs.PageSize.{bytes_of}
use Rattle.sqlite_wal.specs.Recovery.{frame_at}
use Rattle.sqlite_wal.proofs.PartLemmas.{held_is_part}
use Rattle.ee_store_files.specs.Damage.{IsSummed, page_at}
use Rattle.ee_store_files.proofs.Failing.{next_frame}
use Rattle.ee_store_files.proofs.damage.is_summed_at.Goals as goal

pub returns-clause-ok : goal.returns-clause-ok
returns-clause-ok g c clean =
    let log = g.D.Disk.seen c.args.log.now in
    let size = bytes_of c.args.size in
    let page = c.read_at.new.buf in
    let len : length page ≡ size = search rules in
    let small = c.args.size.smallest in
    let offset : c.frame_offset-at.result ≡ frame_at size c.args.i = c.frame_offset-at.ensures.at ∙ ap (λ (n : ℕ). frame_at n c.args.i) c.bytes.ensures.value in
    let read : page_at size log c.args.i ≡ page = ap (λ (at : ℕ). part log (at + 24) size) (sym offset) ∙ held_is_part log _ _ size (c.in_ok-read_at.ensures.read clean (omega arith)) len in
    let test = c.is_summed.ensures in
    let there : IsSummed (length page) page ≡ IsSummed size (page_at size log c.args.i) = ap (λ (n : ℕ). IsSummed n page) len ∙ ap (IsSummed size) (sym read) in
    (λ is. subst (λ (T : Type 0). T) there (test.0 is), λ is. test.1 (subst (λ (T : Type 0). T) (sym there) is))

pub returns-in_err-read_at-clause-faults : goal.returns-in_err-read_at-clause-faults
returns-in_err-read_at-clause-faults g c =
    let p = err_from_is_err_and c.from_residual.result c.from_residual.ensures.1 in
    let size = bytes_of c.args.size in
    let offset : c.frame_offset-at.result ≡ frame_at size c.args.i = c.frame_offset-at.ensures.at ∙ ap (λ (n : ℕ). frame_at n c.args.i) c.bytes.ensures.value in
    let next = next_frame size c.args.i in
    let read = c.in_err-read_at.ensures.faults in
    rw p.1 (λ within. read.0 (λ clean. omega (arith, within clean, c.requires.page)), read.1)
