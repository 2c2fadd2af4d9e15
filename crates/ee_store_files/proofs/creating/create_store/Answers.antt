use Rattle.std.proofs.Common.{rules, ◌≡◌, ◌+◌, ◌≤◌, ◌∙◌, inl, inr, [], true, refl, sym, ap, subst, subst₂, arith, le_refl}
use Rattle.std.proofs.Math.Logic.{∥∥₁_map}
use Rattle.std.proofs.lemmas.List.Elements.{All-nil}
use Rattle.sqlite_wal.specs.Files.{seen_image, outcomes}
use Rattle.sqlite_wal.specs.Reads.{are_clean, AreClean}
use Rattle.sqlite_wal.specs.PageSize.{bytes_of, IsPageSize}
use Rattle.sqlite_pool.specs.Stored.{used_size, stored_size}
use Rattle.sqlite_pool.specs.Opening.{IsBlankFile}
use Rattle.sqlite_store.specs.Unopened.{state_of, image, wanted_by, files_of, CanCreate}
use Rattle.sqlite_trees.specs.Objects.{catalog_tree}
use Rattle.sqlite_trees.specs.Tree.{Trees}
use Rattle.sqlite_store.specs.FileStore.{view}
use Rattle.sqlite_store.specs.Listing.{listed_from}
use Rattle.sqlite_store.specs.Listed.{catalog_rows}
use Rattle.sqlite_store.specs.Build.{CanBuild}
use Rattle.sqlite.specs.Files.{image_of, faults_of}
use Rattle.sqlite.proofs.OpenLemmas.{pool_files}
use Rattle.sqlite.proofs.FileLemmas.{stored_used}
use Rattle.ee_store_files.proofs.Failing.{create_fails, fails_wider}
use Rattle.ee_store_files.proofs.Left.{on_the_way}
use Rattle.ee_store_files.specs.Files.{page_size}
use Rattle.ee_store_files.proofs.creating.create_store.Goals as goal

pub returns-in-Ok-create-clause-empty : goal.returns-in-Ok-create-clause-empty
returns-in-Ok-create-clause-empty g c clean =
    let it = c.in-Ok-create.ensures in
    let none : wanted_by c.in-Ok-with_sums.fresh ≡ [] = search rules in
    let unlisted : (view c.in-Ok-create.store).trees catalog_tree ≡ [] = rw clean (catalog_rows _ _ _ ∙ ap (listed_from 0) (it.schema ∙ none)) in
    (λ tree low. it.empty clean tree low, sym (ap (λ (db : Trees). db catalog_tree) it.ready.clean) ∙ unlisted)

pub returns-in-Err-create-clause-unharmed : goal.returns-in-Err-create-clause-unharmed
returns-in-Err-create-clause-unharmed g c still =
    let files = c.args.files in
    let fresh = c.in-Ok-with_sums.fresh in
    let it = c.in-Err-create.ensures in
    let given = c.unwrap-size.result in
    let made : files_of fresh ≡ (files.log, files.db) = c.in-Ok-with_sums.ensures.files ∙ c.in-Ok.ensures.files in
    let clean : AreClean g.D.Disk files.log files.db = sym ((pool_files fresh.pool).1 ∙ ap (λ f. are_clean g.D.Disk f.0 f.1) made) ∙ it.falls still in
    let found = c.requires.uncreated clean in
    let new_size : bytes_of given ≡ 1024 = search rules in
    let size : (state_of fresh).page_size ≡ page_size = c.in-Ok-with_sums.ensures.size ∙ ap (λ n. used_size n true) (c.in-Ok.ensures.size ∙ new_size) in
    let seen : image fresh ≡ image_of g.D.Disk files = ap (λ f. seen_image g.D.Disk f.0 f.1) made in
    let blank : IsBlankFile (state_of fresh).page_size (image fresh) = subst₂ IsBlankFile (sym size) (sym seen) found in
    let valid : IsPageSize (stored_size page_size) = subst IsPageSize (sym (stored_used given true) ∙ ap (λ n. stored_size (used_size n true)) new_size) (given.smallest, given.largest, given.power, given.aligned) in
    let none : wanted_by fresh ≡ [] = search rules in
    inr (
      found,
      λ left may. elim ((it.unharmed still).blank blank left may) [
        | inl was ↦ inl (subst (λ f. outcomes g.D.Disk f.0 f.1 left) made ((pool_files fresh.pool).2 left was))
        | inr way ↦ inr (on_the_way page_size left valid (rw (size, none) at way))
      ],
    )

pub returns-in-Ok-create-clause-counts : goal.returns-in-Ok-create-clause-counts
returns-in-Ok-create-clause-counts g c clean =
    let fresh = c.in-Ok-with_sums.fresh in
    let made = c.in-Ok-with_sums.ensures.files ∙ c.in-Ok.ensures.files in
    let it = c.in-Ok-create.ensures in
    omega (arith, (pool_files fresh.pool).0, ap (λ f. g.D.Disk.faults f.0 + g.D.Disk.faults f.1) made, (it.kept clean).counts, it.counted)

pub returns-in-Err-create-clause-cause : goal.returns-in-Err-create-clause-cause
returns-in-Err-create-clause-cause g c still =
    let files = c.args.files in
    let fresh = c.in-Ok-with_sums.fresh in
    let it = c.in-Err-create.ensures in
    let given = c.unwrap-size.result in
    let made : files_of fresh ≡ (files.log, files.db) = c.in-Ok-with_sums.ensures.files ∙ c.in-Ok.ensures.files in
    let clean : AreClean g.D.Disk files.log files.db = sym ((pool_files fresh.pool).1 ∙ ap (λ f. are_clean g.D.Disk f.0 f.1) made) ∙ it.falls still in
    let new_size : bytes_of given ≡ 1024 = search rules in
    let size : (state_of fresh).page_size ≡ page_size = c.in-Ok-with_sums.ensures.size ∙ ap (λ n. used_size n true) (c.in-Ok.ensures.size ∙ new_size) in
    let seen : image fresh ≡ image_of g.D.Disk files = ap (λ f. seen_image g.D.Disk f.0 f.1) made in
    let blank : IsBlankFile (state_of fresh).page_size (image fresh) = subst₂ IsBlankFile (sym size) (sym seen) (c.requires.uncreated clean) in
    let none : wanted_by fresh ≡ [] = search rules in
    let counts : faults_of g.D.Disk files ≤ (state_of fresh).faults =
    omega (arith, (pool_files fresh.pool).0, ap (λ f. g.D.Disk.faults f.0 + g.D.Disk.faults f.1) made) in
    let can : CanCreate fresh = record { few = rw none (omega arith); files = inl blank; schema = subst CanBuild (sym none) (record { distinct = refl; shaped = All-nil _; short = All-nil _ }) } in
    let why = create_fails _ _ _ _ _ c.in-Err-create.error counts can (it.cause still) in
    rw c.create_error.ensures.value (fails_wider _ _ _ _ _ _ _ (le_refl _) (le_refl _)
    (λ stop. ∥∥₁_map stop (λ how. elim how [ inl full ↦ full | inr deep ↦ absurd (deep.0 (it.back ∙ none)) ])) why)
