use Rattle.std.proofs.Common.{rules, arith, ◌≡◌, ◌∙◌, ◌≤◌, List, ℕ, length, sym, ap, eqb-true, eq-eqb}
use Rattle.sqlite_wal.specs.Format.{be32, part}
use Rattle.sqlite_wal.proofs.PartLemmas.{held_is_part}
use Rattle.sqlite_wal.proofs.FormatLemmas.{be32-part}
use Rattle.ee_store_files.proofs.damage.says_sums.Goals as goal

pub returns-clause-ok : goal.returns-clause-ok
returns-clause-ok g c clean =
    let db = g.D.Disk.seen c.args.db.now in
    let len : length c.read_at.new.buf ≡ 4 = search rules in
    let seen = c.len.ensures.seen in
    let read : part db 20 4 ≡ c.read_at.new.buf = ap (λ (f : List ℕ). part f 20 4) (sym seen) ∙ held_is_part _ _ 20 4 (c.in_ok-read_at.ensures.read clean (omega arith)) len in
    let value : c.be32_at.result ≡ be32 db 20 = c.be32_at.ensures ∙ ap (λ (b : List ℕ). be32 b 0) (sym read) ∙ be32-part db 20 4 0 (omega arith) in
    let long : 24 ≤ length db = search rules in (
      λ is. (long, sym value ∙ eqb-true _ _ is),
      λ says. eq-eqb _ _ (value ∙ says.1),
    )
