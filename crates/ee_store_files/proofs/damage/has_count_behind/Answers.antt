use Rattle.std.proofs.Common.{rules, ◌≡◌, ◌<◌, ◌/◌, ◌↔◌, IsTrue, ℕ, length}
use Rattle.std.proofs.lemmas.Bool.{and_parts}
use Rattle.std.proofs.lemmas.Result.{IfOk-weaker}
use Rattle.sqlite_wal.specs.PageSize.{bytes_of}
use Rattle.sqlite.specs.Files.{image_of}
use Rattle.ee_store_files.specs.Inner.Damage.{IsLateCountAt}
use Rattle.ee_store_files.proofs.Frames.{counts_behind}
use Rattle.ee_store_files.proofs.damage.has_count_behind.Goals as goal

pub returns-clause-ok : goal.returns-clause-ok
returns-clause-ok g c =
    IfOk-weaker c.finds_count.result _ _ (λ b told clean.
    let both = and_parts (g.D.Disk.is_clean c.finds_count.new.log) (g.D.Disk.is_clean c.len.new.self) clean in
    let size = bytes_of c.args.size in
    let db = g.D.Disk.seen c.args.files.now.db in
    let from = c.args.from in
    let doubted = c.in-Ok.ensures.ok (c.finds_count.ensures.same.clean both.0) in
    let len : c.in-Ok-len.len ≡ length db = search rules in
    let late : IsTrue b ↔ ((i : ℕ) × (from < i) × IsLateCountAt c.in-Ok.is_doubted (length db / size) size (g.D.Disk.seen c.args.files.now.log) i) =
    rw (c.is_unwritten.ensures.same.seen, len, c.bytes-2.ensures.value, c.bytes-3.ensures.value) at (told both.0) in
    let behind = counts_behind c.in-Ok.is_doubted size (image_of g.D.Disk c.args.files.now) from doubted in
    (λ is. behind.0 (late.0 is), λ it. late.1 (behind.1 it))) c.finds_count.ensures.ok
