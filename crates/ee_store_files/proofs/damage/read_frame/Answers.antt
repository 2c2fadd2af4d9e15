use Rattle.std.proofs.Common.{rules, arith, ◌≡◌, ◌+◌, ◌≤◌, ℕ, length, sym, ◌∙◌, ap}
use Rattle.sqlite_wal.specs.Format.{part}
use Rattle.sqlite_wal.specs.Recovery.{frame_at, frame}
use Rattle.sqlite_wal.proofs.PartLemmas.{held_is_part}
use Rattle.ee_store_files.proofs.damage.read_frame.Goals as goal

pub returns-clause-read : goal.returns-clause-read
returns-clause-read g c clean _ =
    let log = g.D.Disk.seen c.args.log.now in
    let size = c.args.page_size in
    let len : length c.read_at.new.buf ≡ 24 + size = search rules in
    let long = c.requires.len (search rules) in
    let within : frame_at size c.args.i + (24 + size) ≤ length log = omega (arith, long, c.if-len-at.false, c.frame_offset-at.ensures.at) in
    let read : frame size log c.args.i ≡ c.read_at.new.buf =
    ap (λ (at : ℕ). part log at (24 + size)) (sym c.frame_offset-at.ensures.at) ∙ held_is_part log _ _ _ (c.in_ok-read_at.ensures.read clean (omega arith)) len in
    record { within = within; read = sym read }
