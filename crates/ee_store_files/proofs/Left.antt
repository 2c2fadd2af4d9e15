-- What is left of two files.
use Rattle.std.proofs.Common.{◌≡◌, ◌⊎◌, ◌≤◌, ◌∙◌, inl, inr, ℕ, true, [], refl, sym, subst, arith}
use Rattle.std.proofs.Math.Logic.{∥∥₁_map}
use Rattle.sqlite_disk.specs.declared.Disk.{Ghosts}
use Rattle.sqlite_disk.specs.declared.Files.{Files}
use Rattle.sqlite_wal.specs.Reads.{OnlyReads}
use Rattle.sqlite_wal.specs.Recovery.{Image, AreWhole}
use Rattle.sqlite_wal.specs.PageSize.{IsPageSize}
use Rattle.sqlite_wal.specs.Files.{outcomes}
use Rattle.sqlite_pages.specs.PageMap.{PageMap}
use Rattle.sqlite_pool.specs.Stored.{reserved, stored_size, Recovers, StandsAs, IsUnreadable}
use Rattle.sqlite_pool.proofs.ProbeLemmas.{not_blank}
use Rattle.sqlite_pool.specs.StoredLaws.{trimmed_whole}
use Rattle.sqlite_pool.specs.Opening.{IsBlankFile, IsNew}
use Rattle.sqlite_pool.specs.File.{version_in, in_use}
use Rattle.sqlite_pool.proofs.ResealLemmas.{adopts_of}
use Rattle.sqlite_trees.specs.Tree.{Trees}
use Rattle.sqlite_store.specs.Db.{trees_in}
use Rattle.sqlite_store.specs.Opening as store
use Rattle.sqlite_store.specs.Unopened.{state_of}
use Rattle.sqlite_store.specs.Listing.{all_trees, file_trees, IsOurs}
use Rattle.sqlite_store.specs.Listed.{catalog_rows}
use Rattle.sqlite_store.proofs.ListingLemmas.{past_version, named_tree}
use Rattle.sqlite_store.proofs.BuildLemmas.{new_is_empty}
use Rattle.sqlite.specs.declared.file.Leftover.{Leftover}
use Rattle.sqlite.specs.declared.file.Leftover.TheVariants as left
use Rattle.sqlite.specs.Files.{image_of, HoldsDatabase, AreFoundIn, IsNothing, IsUnderWay, IsKept, NamesSize, BeginsWell, SaysSums, IsEmpty, LeavesFiles}
use Rattle.sqlite.proofs.ListingLemmas.{empty_is_sound}
use Rattle.sqlite.proofs.FileLemmas.{same_image}
use Rattle.ee_store_files.specs.Files.{page_size, IsUncreated, LeavesNew, Leaves}

-- ---- reads change nothing of what is left

module _ {D : Type 0} {g : Ghosts D} {old new : Files D} (log : OnlyReads g old.log new.log) (db : OnlyReads g old.db new.db) where
  same : image_of g new ≡ image_of g old
  same = same_image log db

  pub back : (image : Image) → outcomes g new.log new.db image → outcomes g old.log old.db image
  back image may = (log.crash _ may.0, db.crash _ may.1)

  under : (image : Image) → IsUnderWay g new image → IsUnderWay g old image
  under image (inl was) = inl (back image was)
  under image (inr way) = inr way

  kept : (size : ℕ) (image : Image) → IsKept g new size image → IsKept g old size image
  kept size image it = record {
    same = elim it.same [ inl was ↦ inl (back image was) | inr stands ↦ inr (subst (λ i. StandsAs size i image) same stands) ];
    unread = λ unreadable. back image (it.unread (subst (IsUnreadable size) (sym same) unreadable));
    something = λ other. it.something (λ was. other (back image was));
  }

  pub files_after : (rest : Leftover D g) → LeavesFiles new rest → LeavesFiles old rest
  files_after (left.Files now) leaves = λ image may. back image (leaves image may)
  files_after (left.Unopened now) (inl (nothing, way)) = inl (subst IsNothing same nothing, λ image may. under image (way image may))
  files_after (left.Unopened now) (inr it) =
      let size = stored_size (state_of now).page_size in
      inr (
        subst (λ i. ¬ IsNothing i) same it.0,
        subst (λ i. NamesSize i size) same it.1,
        subst (BeginsWell size) same it.2,
        λ sums. subst (SaysSums size) same (it.3 sums),
        λ image may. kept (state_of now).page_size image (it.4 image may),
      )
  files_after (left.Store now) leaves = λ found may.
      let it = leaves found may in
      (subst (λ i. AreFoundIn i found) same it.0, λ held holds. it.1 held (subst (λ i. HoldsDatabase i held) (sym same) holds))

  new_after : (rest : Leftover D g) → LeavesNew new rest → LeavesNew old rest
  new_after (left.Files now) leaves = λ image may. back image (leaves image may)
  new_after (left.Unopened now) leaves = λ image may. elim (leaves image may) [ inl was ↦ inl (back image was) | inr way ↦ inr way ]
  new_after (left.Store now) leaves = leaves

  pub leaves_after : (rest : Leftover D g) → Leaves new rest → Leaves old rest
  leaves_after rest (inl leaves) = inl (files_after rest leaves)
  leaves_after rest (inr (uncreated, leaves)) = inr (subst IsUncreated same uncreated, new_after rest leaves)

-- ---- a database that is being created

empty_database : (size : ℕ) (image : Image) (pages : PageMap) → IsPageSize (stored_size size) → Recovers size image pages → IsOurs size true [] pages
    → (db : Trees) × HoldsDatabase image db × IsEmpty db
unfolding trees_in
empty_database size image pages valid found ours =
    let db = file_trees size [] pages in
    let unlisted = catalog_rows size [] (in_use size pages) in (
      db,
      (size, valid, record { pages = pages; wanted = []; schema = _; found = adopts_of size image pages found; ours = ours; reads = refl; sound = empty_is_sound db unlisted }),
      (λ tree low. past_version tree low (all_trees size [] (in_use size pages)) (version_in pages) ∙ named_tree tree low size [] (in_use size pages), unlisted),
    )

pub on_the_way : (size : ℕ) (image : Image) → IsPageSize (stored_size size)
    → IsBlankFile size image ⊎ ((pages : PageMap) × Recovers size image pages × (IsNew size pages ⊎ ∥ store.IsFresh size [] pages ∥₁))
    → IsBlankFile size image ⊎ ∥ ((db : Trees) × HoldsDatabase image db × IsEmpty db) ∥₁
on_the_way size image valid (inl blank) = inl blank
on_the_way size image valid (inr made) =
    inr (elim made.2 [
      | inl new ↦
          let whole : AreWhole size made.0 = subst (AreWhole size) made.1.shows (trimmed_whole size made.1.stored made.1.whole) in
          let empty = new_is_empty size made.0 whole new in
          ∣ empty_database size image made.0 valid made.1 (record { file = empty.0; numbered = λ _. record { listed = empty.1; spaced = refl; ordered = refl } }) ∣₁
      | inr fresh ↦ ∥∥₁_map fresh (λ it. empty_database size image made.0 valid made.1 it.0)
    ])

-- ---- files of which one is still to be created

-- they hold no database
pub holds_none : (image : Image) (db : Trees) → HoldsDatabase image db → ¬ IsUncreated image
holds_none image db held =
    let large : 504 ≤ held.0 = (let few : reserved held.0 ≤ 8 = grind arith in omega (arith, held.1.0)) in
    not_blank held.0 image held.2.pages held.2.found large held.2.ours.file.sound page_size (omega arith)
