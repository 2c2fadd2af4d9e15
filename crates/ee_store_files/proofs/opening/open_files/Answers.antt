use Rattle.std.proofs.Common.{inl, inr, sym, subst, le_refl}
use Rattle.std.proofs.lemmas.Result.{IfOk-weaker, IfErr-weaker}
use Rattle.sqlite.specs.Files.{image_of, HoldsDatabase, AreFoundIn, IsTooLong, file_state}
use Rattle.sqlite.proofs.FileLemmas.{same_image}
use Rattle.ee_store_files.specs.Damage.{IsDamaged}
use Rattle.ee_store_files.specs.Files.{IsUncreated}
use Rattle.ee_store_files.specs.Opening.{Refuses}
use Rattle.ee_store_files.proofs.Failing.{fails_wider}
use Rattle.ee_store_files.proofs.Left.{leaves_after, holds_none}
use Rattle.ee_store_files.proofs.Orphaned.{whole_if_empty}
use Rattle.ee_store_files.proofs.opening.open_files.Goals as goal

pub create-requires-clause-uncreated : goal.create-requires-clause-uncreated
create-requires-clause-uncreated g c clean =
    let read = c.is_uncreated.ensures in
    subst IsUncreated (sym (same_image read.log read.db)) ((c.in-Ok-true.ensures.ok clean).0 c.in-Ok-true.field-0-test)

pub returns-in-Ok-true-clause-found : goal.returns-in-Ok-true-clause-found
returns-in-Ok-true-clause-found g c = IfOk-weaker c.create.result _ _ (λ conn made still.
    let (clean, empty) = made still in
    let uncreated = (c.in-Ok-true.ensures.ok clean).0 c.in-Ok-true.field-0-test in
    record {
      holds = λ db held. absurd (holds_none (image_of g.D.Disk c.args.files) db held uncreated);
      reads = inr (uncreated, empty);
      taken = c.in-Ok-true.ensures.taken clean;
      intact = whole_if_empty (image_of g.D.Disk c.args.files) uncreated (c.in-Ok-true.ensures.with_its_file clean);
      with_its_file = c.in-Ok-true.ensures.with_its_file clean;
      blank = λ _. empty;
    }) c.create.ensures.made

pub returns-in-Ok-true-clause-unharmed : goal.returns-in-Ok-true-clause-unharmed
returns-in-Ok-true-clause-unharmed g c =
    let read = c.is_uncreated.ensures in
    IfErr-weaker c.create.result _ _ (λ e leaves still. leaves_after read.log read.db e.1 (leaves still)) c.create.ensures.unharmed

pub returns-in-Ok-false-clause-found : goal.returns-in-Ok-false-clause-found
returns-in-Ok-false-clause-found g c = IfOk-weaker c.open_intact.result _ _ (λ conn finds still.
    let (found, whole) = finds still in
    let same = same_image c.is_uncreated.ensures.log c.is_uncreated.ensures.db in
    record {
      holds = λ db held. found.holds db (subst (λ i. HoldsDatabase i db) (sym same) held);
      reads = inl (subst (λ i. AreFoundIn i (file_state conn).committed.trees) same found.reads);
      taken = c.in-Ok-false.ensures.taken found.honest;
      intact = inr (λ damaged. whole (subst IsDamaged (sym same) damaged));
      with_its_file = c.in-Ok-false.ensures.with_its_file found.honest;
      blank = λ uncreated. let is = (c.in-Ok-false.ensures.ok found.honest).1 uncreated in let not = c.in-Ok-false.field-0-test in absurd (cc);
    }) c.open_intact.ensures.found

pub returns-in-Ok-true-clause-sums : goal.returns-in-Ok-true-clause-sums
returns-in-Ok-true-clause-sums g c = IfOk-weaker c.create.result _ _ (λ conn sums still uncreated. sums still) c.create.ensures.sums

pub returns-in-Ok-false-clause-sums : goal.returns-in-Ok-false-clause-sums
returns-in-Ok-false-clause-sums g c = IfOk-weaker c.open_intact.result _ _ (λ conn finds still uncreated.
    let is = (c.in-Ok-false.ensures.ok (finds still).0.honest).1 uncreated in
    let not = c.in-Ok-false.field-0-test in
    absurd (cc)) c.open_intact.ensures.found

pub returns-in-Ok-false-clause-unharmed : goal.returns-in-Ok-false-clause-unharmed
returns-in-Ok-false-clause-unharmed g c =
    let read = c.is_uncreated.ensures in
    IfErr-weaker c.open_intact.result _ _ (λ e leaves still. leaves_after read.log read.db e.1 (inl (leaves still))) c.open_intact.ensures.unharmed

pub returns-in-Ok-true-clause-cause : goal.returns-in-Ok-true-clause-cause
returns-in-Ok-true-clause-cause g c = IfErr-weaker c.create.result _ _
    (λ e fails still. inl (fails_wider _ _ _ _ _ _ e.0 c.is_uncreated.ensures.counts (le_refl _) (λ full. full) (fails still))) c.create.ensures.cause

pub returns-in-Ok-false-clause-cause : goal.returns-in-Ok-false-clause-cause
returns-in-Ok-false-clause-cause g c = IfErr-weaker c.open_intact.result _ _ (λ e why still.
    let read = c.is_uncreated.ensures in
    elim (why still) [
      | inl fails ↦ inl (fails_wider _ _ _ _ _ _ e.0 read.counts (le_refl _) (λ full. full) fails)
      | inr refused ↦ inr (subst (λ i. Refuses i e.0) (same_image read.log read.db) refused)
    ]) c.open_intact.ensures.cause

pub returns-in-Err-clause-cause : goal.returns-in-Err-clause-cause
returns-in-Err-clause-cause g c clean =
    let read = c.is_uncreated.ensures in
    elim (c.in-Err.ensures.cause clean) [
      | inl fails ↦ inl (fails_wider _ _ _ _ _ _ _ (le_refl _) (le_refl _) (subst IsTooLong (sym (same_image read.log read.db))) fails)
      | inr refused ↦ inr refused
    ]
