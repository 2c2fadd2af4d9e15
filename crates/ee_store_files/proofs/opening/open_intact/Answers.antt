use Rattle.std.proofs.Common.{sym, subst, inl, inr, refl, le_refl}
use Rattle.std.proofs.lemmas.Bool.{and_parts, and_from, iff_false}
use Rattle.std.proofs.lemmas.Result.{IfOk-weaker, IfErr-weaker}
use Rattle.sqlite_wal.specs.Reads.{tally_of_files}
use Rattle.sqlite.specs.Files.{image_of, tally_left, HoldsDatabase, AreFoundIn, IsTooLong, file_state}
use Rattle.sqlite.proofs.FileLemmas.{same_image}
use Rattle.ee_store_files.specs.Opening.{Refuses}
use Rattle.ee_store_files.proofs.Failing.{fails_wider, open_fails}
use Rattle.ee_store_files.proofs.Left.{files_after}
use Rattle.ee_store_files.proofs.opening.open_intact.Goals as goal

pub returns-in-Ok-false-clause-found : goal.returns-in-Ok-false-clause-found
returns-in-Ok-false-clause-found g c = IfOk-weaker c.open_files.result _ _ (λ conn finds still.
    let found = finds still in
    let read = c.is_damaged.ensures in
    let same = same_image read.log read.db in
    let both = and_parts (g.D.Disk.is_clean c.is_damaged.new.files.log) (g.D.Disk.is_clean c.is_damaged.new.files.db) found.honest in (
      record {
        honest = and_from _ _ (read.log.clean both.0) (read.db.clean both.1);
        holds = λ db held. found.holds db (subst (λ i. HoldsDatabase i db) (sym same) held);
        reads = subst (λ i. AreFoundIn i (file_state conn).committed.trees) same found.reads;
      },
      iff_false (c.in-Ok-false.ensures.ok found.honest) c.in-Ok-false.field-0-test,
    )) c.open_files.ensures.found

pub returns-in-Ok-false-clause-unharmed : goal.returns-in-Ok-false-clause-unharmed
returns-in-Ok-false-clause-unharmed g c =
    let read = c.is_damaged.ensures in
    IfErr-weaker c.open_files.result _ _ (λ e leaves still. files_after read.log read.db e.1 (leaves still)) c.open_files.ensures.unharmed

pub returns-in-Ok-true-clause-cause : goal.returns-in-Ok-true-clause-cause
returns-in-Ok-true-clause-cause g c clean =
    inr (inr (inr (refl, inl ((c.in-Ok-true.ensures.ok clean).0 c.in-Ok-true.field-0-test))))

pub returns-in-Err-clause-cause : goal.returns-in-Err-clause-cause
returns-in-Err-clause-cause g c clean =
    let read = c.is_damaged.ensures in
    elim (c.in-Err.ensures.cause clean) [
      | inl fails ↦ inl (fails_wider _ _ _ _ _ _ _ (le_refl _) (le_refl _) (subst IsTooLong (sym (same_image read.log read.db))) fails)
      | inr refused ↦ inr refused
    ]

pub returns-in-Ok-false-clause-cause : goal.returns-in-Ok-false-clause-cause
returns-in-Ok-false-clause-cause g c = IfErr-weaker c.open_files.result _ _ (λ e why still.
    let read = c.is_damaged.ensures in
    let now = c.is_damaged.new.files in
    let same = same_image read.log read.db in
    elim (open_fails _ _ _ _ (image_of g.D.Disk now) (tally_of_files g.D.Disk (now.log, now.db)) (tally_left e.1) e.0 read.counts (why still)) [
      | inl fails ↦ inl fails
      | inr refused ↦ inr (subst (λ i. Refuses i e.0) same refused)
    ]) c.open_files.ensures.cause
