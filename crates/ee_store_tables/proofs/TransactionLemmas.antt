-- A transaction that is begun, written and ended.
use Rattle.std.proofs.Common.{◌≡◌, inl, inr, true, false, IsTrue, refl, sym, ap, subst, ◌∙◌}
use Rattle.sqlite.specs.declared.error.Error.{Error}
use Rattle.sqlite.specs.Effect.{Database}
use Rattle.sqlite.specs.Tree.{Trees}
use Rattle.sqlite.specs.State.{HasCleanDisk, Survives, Shows, State, IsRolledBack, KeepsCommit}
use Rattle.sqlite.specs.Steps.{FailsToCommit}
use Rattle.sqlite.proofs.StateLemmas.{survives_then}
use Rattle.sqlite.proofs.InsideLemmas.{unchanged_keeps, keeps_then}
use Rattle.ee_store_tables.proofs.KeepLemmas.{clean_before}
use Rattle.ee_store_tables.specs.Rows.{IsInside, Sees, Has, Rows, Holds}
use Rattle.ee_store_tables.specs.Statements.{LeavesOthers}
use Rattle.ee_store_tables.specs.Tables.{HasCounterTables, KeepsOthers}
use Rattle.ee_store_tables.proofs.OtherLemmas.{keeps_itself}

abbrev pub begun : State → State
begun s = record s { in_transaction = true }

module _ (old start : State) (is : start ≡ begun old) (settled : IsTrue old.is_open → old.now ≡ old.committed) (rows : Rows) (has : Has old rows) where
  inside_begun : IsInside (begun old)
  inside_begun is_open = (
    refl,
    subst (λ (d : Database). HasCounterTables d.schema) (sym (settled is_open)) (has is_open).0,
    subst (λ (d : Database). KeepsOthers old.committed d) (sym (settled is_open)) (keeps_itself old.committed),
  )

  pub begun_inside : IsInside start
  begun_inside = subst IsInside (sym is) inside_begun

  sees_begun : Sees (begun old) rows
  sees_begun is_open = (subst (λ (d : Database). HasCounterTables d.schema) (sym (settled is_open)) (has is_open).0, subst (λ (d : Database). Holds d.trees rows) (sym (settled is_open)) (has is_open).1)

  pub begun_sees : Sees start rows
  begun_sees = subst (λ s. Sees s rows) (sym is) sees_begun

module _ (old start : State) (is : start ≡ begun old) (middle new : State) where
  pub still_has : (rows : Rows) → Has old rows → KeepsCommit start middle → KeepsCommit middle new → Has new rows
  still_has rows has one two is_open =
      let all = keeps_then (begun old) middle new (subst (λ s. KeepsCommit s middle) is one) two in
      let it = has (all.was_open is_open) in
      (subst (λ (d : Database). HasCounterTables d.schema) (sym (all.committed is_open)) it.0, subst (λ (d : Database). Holds d.trees rows) (sym (all.committed is_open)) it.1)

  -- what commits nothing leaves others' tables as they were
  pub still_others : KeepsCommit start middle → KeepsCommit middle new → LeavesOthers old new
  still_others one two is_open =
      let all = keeps_then (begun old) middle new (subst (λ s. KeepsCommit s middle) is one) two in
      subst (λ (d : Database). KeepsOthers old.committed d) (sym (all.committed is_open)) (keeps_itself old.committed)

  -- and so does a commit
  pub committed_others : KeepsCommit start middle → IsInside middle → Shows middle new middle.now middle.now false → LeavesOthers old new
  committed_others one inside shows is_open =
      let before = subst (λ s. KeepsCommit s middle) is one in
      let kept : KeepsOthers old.committed middle.now = subst (λ (d : Database). KeepsOthers d middle.now) (before.committed shows.was_open) (inside shows.was_open).2 in
      subst (λ (d : Database). KeepsOthers old.committed d) (sym shows.committed_is) kept

  pub rolled_keeps : IsRolledBack middle new → KeepsCommit middle new
  rolled_keeps it = unchanged_keeps middle new (inr it)

  pub failed_keeps : (e : Error) → FailsToCommit middle new e → KeepsCommit middle new
  failed_keeps e (inl it) = unchanged_keeps middle new (inr it.3)
  failed_keeps e (inr it) = unchanged_keeps middle new (inl it.2)

  pub committed_has : (rows : Rows) → Sees middle rows → Shows middle new middle.now middle.now false → Has new rows
  committed_has rows sees shows is_open = let it = sees shows.was_open in (subst (λ (d : Database). HasCounterTables d.schema) (sym shows.committed_is) it.0, subst (λ (d : Database). Holds d.trees rows) (sym shows.committed_is) it.1)

  -- a crash leaves what it left before, or what the commit made
  pub commit_survives : (Made : Trees → Type 0) → (HasCleanDisk middle → Made middle.now.trees) → Survives start middle (λ _. ⊥) → Survives middle new (λ db. db ≡ middle.now.trees) → Survives old new Made
  commit_survives Made made one two = whole (survives_then (begun old) middle new (λ _. ⊥) (λ db. db ≡ middle.now.trees) Made (λ _ db h. absurd h)
      (λ clean db e. subst Made (sym e) (made (clean_before middle new two clean))) (subst (λ s. Survives s middle (λ _. ⊥)) is one) two)
    where
      whole : Survives (begun old) new Made → Survives old new Made
      whole s = record { clean = s.clean; shield = s.shield; counts = s.counts; limit = s.limit; closes = s.closes; crash = s.crash }
