use Rattle.std.proofs.Common.{rules, arith, ◌≡◌, ◌+◌, ◌-◌, ◌∙◌, List, ℕ, length, sym, ap, add-zero}
use Rattle.std.proofs.lemmas.Result.{err_from_is_err_and}
use Rattle.sqlite_wal.specs.Format.{be32, part}
use Rattle.sqlite_wal.specs.PageSize.{bytes_of}
use Rattle.sqlite_wal.specs.Recovery.{frame_at}
use Rattle.sqlite_wal.proofs.PartLemmas.{held_is_part}
use Rattle.sqlite_wal.proofs.FormatLemmas.{be32-part}
use Rattle.ee_store_files.proofs.Failing.{next_frame}
use Rattle.ee_store_files.proofs.damage.size_after.Goals as goal

pub returns-clause-ok : goal.returns-clause-ok
returns-clause-ok g c clean =
    let log = g.D.Disk.seen c.args.log.now in
    let size = bytes_of c.args.size in
    let len : length c.read_at.new.buf ≡ 4 = search rules in
    let offset : c.frame_offset-at.result ≡ frame_at size (c.args.frames - 1) = c.frame_offset-at.ensures.at ∙ ap (λ (n : ℕ). frame_at n (c.args.frames - 1)) c.bytes.ensures.value in
    let at = frame_at size (c.args.frames - 1) + 4 in
    let read : part log at 4 ≡ c.read_at.new.buf = ap (λ (o : ℕ). part log (o + 4) 4) (sym offset) ∙ held_is_part log _ _ 4 (c.in_ok-read_at.ensures.read clean (omega arith)) len in
    c.be32_at.ensures ∙ ap (λ (b : List ℕ). be32 b 0) (sym read) ∙ be32-part log at 4 0 (omega arith) ∙ ap (be32 log) (add-zero at)

pub returns-in_err-read_at-clause-faults : goal.returns-in_err-read_at-clause-faults
returns-in_err-read_at-clause-faults g c =
    let p = err_from_is_err_and c.from_residual.result c.from_residual.ensures.1 in
    let size = bytes_of c.args.size in
    let last = c.args.frames - 1 in
    let offset : c.frame_offset-at.result ≡ frame_at size last = c.frame_offset-at.ensures.at ∙ ap (λ (n : ℕ). frame_at n last) c.bytes.ensures.value in
    let whole : last + 1 ≡ c.args.frames = omega (arith, c.requires.some) in
    let next = sym (ap (frame_at size) whole) ∙ next_frame size last in
    let len : length c.read_at.new.buf ≡ 4 = search rules in
    let read = c.in_err-read_at.ensures.faults in
    rw p.1 (λ within. read.0 (λ clean. omega (arith, within clean)), read.1)
