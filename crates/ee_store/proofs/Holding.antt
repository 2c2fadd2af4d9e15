-- What two files hold, and that an open which fails leaves it there.
use Rattle.std.proofs.Common.{◌≡◌, ◌≢◌, ◌⊎◌, ◌+◌, ◌-◌, ◌*◌, ◌%◌, ◌<◌, ◌≤◌, ◌∙◌, ℕ, true, false, IsTrue, List, [], length, take, slice_index, Option, Some, None, option_map, unwrap_or, cond, eqb, refl, sym, ap, ap₂, subst, inl, inr, arith, get_or-take, le-ltb, zero-add, length-take-le, take_all, eq-eqb, ne_eqb, eqb-true}
use Rattle.std.proofs.lemmas.Bool.{cases_Bool, cases_lt, cases_eq}
use Rattle.std.proofs.Math.ListN.{get_or-eq_default}
use Rattle.std.proofs.Math.Logic.{∥∥₁_elim, ∥∥₁_map}
use Rattle.std.proofs.Math.Path.{fun_ext}
use native.Mathlib.Nat.{ℕ_set}
use Rattle.sqlite_disk.specs.declared.Disk.{Ghosts}
use Rattle.sqlite_disk.specs.declared.Files.{Files}
use Rattle.sqlite_wal.specs.Format.{part, be32}
use Rattle.sqlite_wal.specs.PageSize.{size_in_file}
use Rattle.sqlite_wal.specs.Files.{outcomes}
use Rattle.sqlite_wal.specs.Recovery as raw
use Rattle.sqlite_wal.specs.Recovery.{Image, AreWhole, IsIgnored, pages_after}
use Rattle.sqlite_wal.proofs.PartLemmas.{slice_index-part, part_within}
use Rattle.sqlite_wal.proofs.FormatLemmas.{be32-part}
use Rattle.sqlite_wal.proofs.RecoveryLemmas.{replays_once, recovers_once}
use Rattle.sqlite_wal.proofs.AppendLemmas.{some_value, page_from_pages}
use Rattle.sqlite_wal.proofs.CreateLemmas.{begun_is_not_blank}
use Rattle.sqlite_pages.specs.PageMap.{PageMap}
use Rattle.sqlite_pool.specs.Header.{first_page}
use Rattle.sqlite_pool.specs.File.{header_in, IsSoundFile}
use Rattle.sqlite_pool.specs.Opening.{IsBlankFile}
use Rattle.sqlite_pool.specs.Stored.{reserved, stored_size, used_size, is_summed, is_among, sealed, resealed, trimmed, Adopts, StandsAs, IsUnreadable}
use Rattle.sqlite_pool.specs.StoredLaws.{trimmed_some}
use Rattle.sqlite_pool.proofs.ProbeLemmas.{first_byte}
use Rattle.sqlite_pool.proofs.ResealLemmas.{same_trimmed, still_whole}
use Rattle.sqlite_pool.proofs.StateLemmas.{size_is_allowed}
use Rattle.sqlite_trees.specs.Tree.{Trees}
use Rattle.sqlite_schema.specs.declared.schema.Schema.{Schema}
use Rattle.sqlite_catalog.specs.Listing.{IsSound}
use Rattle.sqlite_store.specs.Listing.{IsOurs}
use Rattle.sqlite_store.specs.Unopened.{state_of}
use Rattle.sqlite_store.specs.declared.store.FileStore.{FileStore}
use Rattle.sqlite_store.specs.declared.store.open.Unopened.{Unopened}
use Rattle.sqlite_store.specs.FileStore.{state as store_state, view, schema_in, reading, recovers}
use Rattle.sqlite.specs.declared.file.Leftover.TheVariants as left
use Rattle.sqlite.specs.Files.{image_of, HoldsDatabase, AreFound, IsNothing, IsUnderWay, IsKept, NamesSize, BeginsWell, SaysSums, IsEmpty}
use Rattle.sqlite.proofs.ListingLemmas.{empty_is_sound}
use Rattle.ee_store_files.specs.Files.{page_size, IsUncreated, IsOnTheWay}
use Rattle.ee_store.specs.Holding.{ReadsAs, HoldsPages, HoldsOn, AreSettled, TakesHeld, FindsHeld, FindsNone, LeavesHeld}

-- ---- one reading of two files

module _ (size : ℕ) (image : Image) (pages : PageMap) (found : ReadsAs size image pages) (sound : IsSoundFile size pages) where
  first : (page : List ℕ) × (found.stored 1 ≡ Some page)
  first = some_value (found.stored 1) found.whole.first

  sized : length first.0 ≡ stored_size size
  sized = found.whole.sized 1 first.0 first.1

  head : header_in pages ≡ take 100 (take size first.0)
  head =
      let used : pages 1 ≡ Some (take size first.0) = ap (λ (p : PageMap). p 1) (sym found.shows) ∙ trimmed_some size _ 1 first.0 first.1 in
      ap (λ (o : Option (List ℕ)). take 100 (unwrap_or o [])) used

  -- the header's word at 20 isn't 0, so the page reaches it
  large : 24 ≤ size
  large = elim (cases_lt size 24) [
    | inl small ↦
        let none : slice_index (header_in pages) 23 ≡ 0 =
        ap (λ (b : List ℕ). slice_index b 23) head ∙ get_or-take 100 (take size first.0) 23 0 (omega arith)
        ∙ get_or-eq_default (take size first.0) 0 (omega (arith, length-take-le size first.0 (omega (arith, sized)))) in
        absurd (omega (arith, none, sound.header.1.fractions))
    | inr big ↦ big
  ]

  byte : (k : ℕ) → k < 24 → slice_index (header_in pages) k ≡ slice_index first.0 k
  byte k low =
      ap (λ (b : List ℕ). slice_index b k) head ∙ get_or-take 100 (take size first.0) k 0 (omega (arith, low)) ∙ get_or-take size first.0 k 0 (omega (arith, low, large))

  -- it says how many bytes of a page are reserved
  word : be32 first.0 20 ≡ reserved size * 0x100_0000 + 0x0040_2020
  unfolding be32
  word = omega (arith, sound.header.1.fractions, byte 20 (omega arith), byte 21 (omega arith), byte 22 (omega arith), byte 23 (omega arith))

  begins : slice_index first.0 0 ≡ 83
  begins = sym (byte 0 (omega arith)) ∙ sym (get_or-take 16 (header_in pages) 0 0 (omega arith)) ∙ ap (λ (b : List ℕ). slice_index b 0) sound.header.0.magic

  by_log : ¬ IsIgnored image.log → be32 image.log 8 ≡ stored_size size
  by_log read =
      elim found.found.replays [
        | inl ignored ↦ absurd (read ignored.0)
        | inr taken ↦ sym (be32-part image.log 0 32 8 (omega arith)) ∙ taken.0.head.size
      ]

  by_file : IsIgnored image.log → size_in_file image.db ≡ stored_size size
  by_file ignored =
      let whole = stored_size size in
      let it = found.found in
      let none : it.frames ≡ 0 = replays_once whole image.log it.frames 0 it.replays (inl (ignored, refl)) in
      let alone : pages_after whole image.log image.db 0 1 ≡ Some first.0 = ap (λ (p : PageMap). p 1) (ap (pages_after whole image.log image.db) (sym none) ∙ it.gives) ∙ first.1 in
      let start : (1 - 1) * whole ≡ 0 = omega arith in
      let front : part image.db 0 whole ≡ first.0 = ap (λ (at : ℕ). part image.db at whole) (sym start) ∙ (page_from_pages whole image.log image.db 0 1 first.0 alone).0 in
      let long = part_within image.db 0 whole (omega (arith, large)) (ap length front ∙ sized) in
      let at = λ (k : ℕ) (low : k < 24).
      byte k low ∙ ap (λ (b : List ℕ). slice_index b k) (sym front) ∙ slice_index-part image.db 0 whole k (omega (arith, low, large)) ∙ ap (slice_index image.db) (zero-add k) in
      let named = ap₂ (λ (a b : ℕ). a * 256 + b) (at 16 (omega arith)) (at 17 (omega arith)) in
      rw (le-ltb (length image.db) 18 (omega (arith, long, large))) (ap (λ (n : ℕ). cond (eqb n 1) 65536 n) (sym named) ∙ sound.header.0.size)

  names : NamesSize image (stored_size size)
  names = (λ seen. sym (by_log seen), λ ignored. sym (by_file ignored))

  -- files have one page size
  named : (n : ℕ) → NamesSize image n → stored_size size ≡ n
  named n other = elim (cases_eq (stored_size size) n) [
    | inl same ↦ same
    | inr differs ↦
        let read = λ (seen : ¬ IsIgnored image.log). differs (sym (by_log seen) ∙ sym (other.0 seen)) in
        absurd (read (λ ignored. differs (sym (by_file ignored) ∙ sym (other.1 ignored))))
  ]

  not_blank : (other : ℕ) → 0 < other → ¬ IsBlankFile other image
  not_blank other some =
      let gate = first_byte other some in
      begun_is_not_blank (sealed (first_page other)) first.0 (stored_size size) image found.stored found.found first.1 sized (omega (arith, large)) (begins ∙ sym gate) (λ none.
      let never = sym gate ∙ none in omega arith)

  -- no database is still to be created in them
  made : ¬ (IsUncreated image ⊎ IsNothing image)
  made none = elim none [
    | inl uncreated ↦ not_blank page_size (omega arith) uncreated
    | inr nothing ↦ elim nothing [ inl plain ↦ not_blank (used_size 4096 false) (omega arith) plain | inr summed ↦ not_blank (used_size 4096 true) (omega arith) summed ]
  ]

-- ---- two readings of the same files

module _ (image : Image) (a b : ℕ) (p q : PageMap) (x : ReadsAs a image p) (y : ReadsAs b image q) (sound : IsSoundFile a p) (also : IsSoundFile b q) where
  same_stored : stored_size a ≡ stored_size b
  same_stored = named a image p x sound (stored_size b) (names b image q y also)

  same_size : a ≡ b
  same_size =
      let one = recovers_once (stored_size a) image x.stored y.stored x.found (subst (λ n. raw.Recovers n image y.stored) (sym same_stored) y.found) in
      let here = first a image p x sound in
      let there = first b image q y also in
      let both : Some here.0 ≡ Some there.0 = sym here.1 ∙ ap (λ (r : PageMap). r 1) one ∙ there.1 in
      let same : here.0 ≡ there.0 = cc in
      let words = sym (word a image p x sound) ∙ ap (λ (f : List ℕ). be32 f 20) same ∙ word b image q y also in
      omega (arith, words, same_stored)

reads_of : (size : ℕ) (image : Image) (pages : PageMap) → Adopts size image pages → ReadsAs size image pages
reads_of size image pages it = record { stored = it.stored; found = it.found; whole = it.whole; shows = it.shows }

pub takes_held : TakesHeld
takes_held image db (size, valid, it) =
    (size, valid, record { pages = it.pages; wanted = it.wanted; schema = it.schema; found = reads_of size image it.pages it.found; ours = it.ours; reads = it.reads; sound = it.sound })

holds_some : (image : Image) (db : Trees) → HoldsPages image db → ¬ (IsUncreated image ⊎ IsNothing image)
holds_some image db (size, valid, it) = made size image it.pages it.found it.ours.file.sound

pub finds_held : FindsHeld
finds_held image db trees (size, valid, it) found =
    let some = holds_some image db (size, valid, it) in
    elim found [
      | inr none ↦ absurd (some (inl none.0))
      | inl taken ↦ elim taken [
        | inr none ↦ absurd (some (inr none.0))
        | inl file ↦
            let (b, q, wanted, y, ours, is) = file in
            let same : size ≡ b = ∥∥₁_elim ours (ℕ_set _ _) (λ o. same_size image size b it.pages q it.found (reads_of b image q y) it.ours.file.sound o.file.sound) in
            let here : Adopts size image q = subst (λ n. Adopts n image q) (sym same) y in
            let pages : it.pages ≡ q = sym it.found.shows ∙ ap (trimmed size) (recovers_once (stored_size size) image it.found.stored here.stored it.found.found here.found) ∙ here.shows in
            (size, valid, record { pages = it.pages; wanted = it.wanted; schema = it.schema; found = subst (Adopts size image) (sym pages) here; ours = it.ours; reads = it.reads; sound = it.sound })
      ]
    ]

pub finds_none : FindsNone
finds_none image trees none found =
    elim found [
      | inr uncreated ↦ uncreated.1
      | inl taken ↦ elim taken [
        | inr nothing ↦ nothing.1
        | inl file ↦
            let (b, q, wanted, y, ours, is) = file in
            let never : ⊥ = ∥∥₁_elim ours (λ i j. absurd i) (λ o. made b image q (reads_of b image q y) o.file.sound none) in
            absurd never
      ]
    ]

-- ---- files that stand for the same pages

plain_page : (size : ℕ) → size % 16 ≢ 8 → (page : Option (List ℕ)) → ((bytes : List ℕ) → page ≡ Some bytes → length bytes ≡ size)
    → option_map (λ bytes. sealed (take size bytes)) page ≡ page
unfolding sealed
plain_page size plain None whole = refl
plain_page size plain (Some bytes) whole =
    let len = whole bytes refl in
    let same : bytes ≡ sealed (take size bytes) = rw (take_all size bytes (omega (arith, len)), len, ne_eqb _ 8 plain) in
    ap Some (sym same)

-- pages without checksums get none
plain_resealed : (size : ℕ) (numbers : List ℕ) (stored : PageMap) → is_summed size ≡ false → AreWhole (stored_size size) stored → resealed size numbers stored ≡ stored
unfolding resealed
plain_resealed size numbers stored unsummed whole =
    let plain : size % 16 ≢ 8 = λ summed. let never = rw (eq-eqb (size % 16) 8 summed) at unsummed in cc in
    let all : stored_size size ≡ size = rw (ne_eqb _ 8 plain) (omega arith) in
    fun_ext λ n. elim (cases_Bool (is_among numbers n)) [
      | inl among ↦ rw among (plain_page size plain (stored n) (λ bytes is. whole.sized n bytes is ∙ all))
      | inr other ↦ rw other
    ]

held_still : (size : ℕ) (was now : Image) (db : Trees) → NamesSize was (stored_size size) → (IsTrue (is_summed size) → SaysSums (stored_size size) was) → StandsAs size was now
    → HoldsPages was db → HoldsPages now db
held_still size was now db names sums stands (a, valid, it) =
    let stored = it.found.stored in
    let sound = it.ours.file.sound in
    let same : stored_size a ≡ stored_size size = named a was it.pages it.found sound (stored_size size) names in
    let there : raw.Recovers (stored_size size) was stored = subst (λ n. raw.Recovers n was stored) same it.found.found in
    let whole : AreWhole (stored_size size) stored = subst (λ n. AreWhole n stored) same it.found.whole in
    let keep = λ (after : PageMap) (found : raw.Recovers (stored_size size) now after) (intact : AreWhole (stored_size size) after) (shows : trimmed a after ≡ trimmed a stored).
    let r : HoldsPages now db = (
      a,
      valid,
      record {
        pages = it.pages;
        wanted = it.wanted;
        schema = it.schema;
        found = record { stored = after; found = subst (λ n. raw.Recovers n now after) (sym same) found; whole = subst (λ n. AreWhole n after) (sym same) intact; shows = shows ∙ it.found.shows };
        ours = it.ours;
        reads = it.reads;
        sound = it.sound;
      },
    ) in r in
    let unchanged = λ (found : raw.Recovers (stored_size size) now stored). keep stored found whole refl in
    elim stands.0 [
      | inl alike ↦ unchanged (alike stored there)
      | inr summed ↦ elim (summed.2 stored there) [
        | inl found ↦ unchanged found
        | inr found ↦
            let numbers = summed.0 in
            let shows : trimmed a (resealed size numbers stored) ≡ trimmed a stored = elim (cases_Bool (is_summed size)) [
              | inl has ↦
                  let says = sums has stored (first a was it.pages it.found sound).0 there (first a was it.pages it.found sound).1 (sized a was it.pages it.found sound ∙ same) in
                  let eight : reserved size ≡ 8 = eqb-true (reserved size) 8 has in
                  let alike : size ≡ a = omega (arith, says, word a was it.pages it.found sound, eight, same) in
                  subst (λ n. trimmed n (resealed size numbers stored) ≡ trimmed n stored) alike (same_trimmed size numbers stored whole)
              | inr lacks ↦ ap (trimmed a) (plain_resealed size numbers stored lacks whole)
            ] in
            keep (resealed size numbers stored) found (still_whole size numbers stored whole) shows
      ]
    ]

-- a first page that is half written isn't recovered
unreadable : (size : ℕ) (image : Image) → 1 < stored_size size → BeginsWell (stored_size size) image → IsUncreated image → IsUnreadable size image
unreadable size image big begins uncreated pages found whole =
    let (page, is) = some_value (pages 1) whole.first in
    let len = whole.sized 1 page is in
    let gate = first_byte page_size (omega arith) in
    begun_is_not_blank (sealed (first_page page_size)) page (stored_size size) image pages found is len big (begins pages page found is len ∙ sym gate)
    (λ none. let never = sym gate ∙ none in omega arith) uncreated

-- ---- what a crash leaves of an open that failed

empties : (was now : Image) → ((db : Trees) → HoldsPages was db → ∥ HoldsPages now db ∥₁) → ∥ ((db : Trees) × HoldsPages was db × IsEmpty db) ∥₁
    → ∥ ((db : Trees) × HoldsPages now db × IsEmpty db) ∥₁
empties was now database some = ∥∥₁_elim some squash₁ (λ (db, held, empty). ∥∥₁_map (database db held) (λ still. (db, still, empty)))

made_empty : (image : Image) → ∥ ((db : Trees) × HoldsDatabase image db × IsEmpty db) ∥₁ → ∥ ((db : Trees) × HoldsPages image db × IsEmpty db) ∥₁
made_empty image made = ∥∥₁_map made (λ (db, held, empty). (db, takes_held image db held, empty))

module _ {D : Type 0} {g : Ghosts D} where
  -- a store that is left holds one of its databases
  left_store : (now : FileStore D g) → IsTrue (view now).is_numbered → (image : Image) → (store_state now).may_leave image
      → ∥ ((db : Trees) × recovers now db × ((schema : Schema) → IsSound schema db → HoldsPages image db)) ∥₁
  left_store now numbered image may = ∥∥₁_elim now.safe squash₁ (λ all.
      let found = all image may in
      let db = reading now found.0 in
      let allowed : recovers now db = (image, found.0, may, ∣ found.1 ∣₁, refl) in
      ∥∥₁_elim (size_is_allowed now.pool) squash₁ (λ size. ∥∥₁_map found.2 (λ ours.
      let r : (x : Trees) × recovers now x × ((schema : Schema) → IsSound schema x → HoldsPages image x) = (
        db,
        allowed,
        λ schema sound. (
          (store_state now).page_size,
          size,
          record {
            pages = found.0;
            wanted = schema_in now found.0;
            schema = schema;
            found = record { stored = found.1.stored; found = found.1.found; whole = found.1.whole; shows = found.1.shows };
            ours = subst (λ b. IsOurs (store_state now).page_size b (schema_in now found.0) found.0) numbered ours;
            reads = refl;
            sound = sound;
          },
        ),
      ) in r)))

  big_size : (now : Unopened D g) → 1 < stored_size (state_of now).page_size
  big_size now = elim (cases_lt 1 (stored_size (state_of now).page_size)) [
    | inl big ↦ big
    | inr small ↦
        let never : ⊥ = ∥∥₁_elim (size_is_allowed now.pool) (λ i j. absurd i) (λ valid. omega (arith, valid.0, small)) in
        absurd never
  ]

module _ {D : Type 0} (g : Ghosts D) (files : Files D) (settled : AreSettled g files) where
  abbrev was : Image
  was = image_of g files

  outcome : (image : Image) → outcomes g files.log files.db image → HoldsOn was image
  outcome image may = subst (HoldsOn was) (sym (settled image may)) (record { database = λ db held. ∣ held ∣₁; none = λ none. none })

  from_nothing : (image : Image) → IsNothing was → IsUnderWay g files image → HoldsOn was image
  from_nothing image nothing (inl may) = outcome image may
  from_nothing image nothing (inr started) = record {
    database = λ db held. absurd (holds_some was db held (inr nothing));
    none = λ _. elim started [ inl still ↦ inl (inr still) | inr empty ↦ inr (made_empty image empty) ];
  }

  from_uncreated : (image : Image) → IsUncreated was → outcomes g files.log files.db image ⊎ IsOnTheWay image → HoldsOn was image
  from_uncreated image uncreated (inl may) = outcome image may
  from_uncreated image uncreated (inr started) = record {
    database = λ db held. absurd (holds_some was db held (inl uncreated));
    none = λ _. elim started [ inl still ↦ inl (inl still) | inr empty ↦ inr (made_empty image empty) ];
  }

  from_kept : (size : ℕ) (image : Image) → 1 < stored_size size → ¬ IsNothing was → NamesSize was (stored_size size) → BeginsWell (stored_size size) was
      → (IsTrue (is_summed size) → SaysSums (stored_size size) was) → IsKept g files size image → HoldsOn was image
  from_kept size image big something names begins sums it = elim it.same [
    | inl may ↦ outcome image may
    | inr stands ↦
        let database : (db : Trees) → HoldsPages was db → ∥ HoldsPages image db ∥₁ = λ db held. ∣ held_still size was image db names sums stands held ∣₁ in
        record {
          database = database;
          none = λ none. elim none [
            | inl before ↦ elim before [
              | inl uncreated ↦ (outcome image (it.unread (unreadable size was big begins uncreated))).none (inl (inl uncreated))
              | inr nothing ↦ absurd (something nothing)
            ]
            | inr some ↦ inr (empties was image database some)
          ];
        }
  ]

  from_store : (now : FileStore D g) (image : Image) → IsTrue (view now).is_numbered → (store_state now).may_leave image
      → ((found : Trees) → recovers now found → AreFound g files found × ((db : Trees) → HoldsDatabase was db → found ≡ db)) → HoldsOn was image
  from_store now image numbered may leaves =
      let kept = left_store now numbered image may in
      let database : (db : Trees) → HoldsPages was db → ∥ HoldsPages image db ∥₁ = λ db held. ∥∥₁_map kept (λ (found, allowed, holds).
      let it = leaves found allowed in
      let same : found ≡ db = it.1 db (finds_held was db found held (inl it.0)) in
      subst (HoldsPages image) same (holds held.2.schema (subst (IsSound held.2.schema) (sym same) held.2.sound))) in
      record {
        database = database;
        none = λ none. inr (elim none [
          | inl before ↦ ∥∥₁_map kept (λ (found, allowed, holds).
              let empty : IsEmpty found = finds_none was found before (inl (leaves found allowed).0) in
              (found, holds _ (empty_is_sound found empty.1), empty))
          | inr some ↦ empties was image database some
        ]);
      }

  from_new : (now : FileStore D g) (image : Image) → IsTrue (view now).is_numbered → (store_state now).may_leave image → IsUncreated was
      → ((db : Trees) → recovers now db → IsEmpty db) → HoldsOn was image
  from_new now image numbered may uncreated leaves = record {
    database = λ db held. absurd (holds_some was db held (inl uncreated));
    none = λ _. inr (∥∥₁_map (left_store now numbered image may) (λ (found, allowed, holds).
        let empty : IsEmpty found = leaves found allowed in
        (found, holds _ (empty_is_sound found empty.1), empty)));
  }

pub leaves_held : {D : Type 0} (g : Ghosts D) → LeavesHeld g
leaves_held g files (left.Files now) settled (inl leaves) numbered image may = outcome g files settled image (leaves image may)
leaves_held g files (left.Files now) settled (inr (uncreated, leaves)) numbered image may = outcome g files settled image (leaves image may)
leaves_held g files (left.Unopened now) settled (inl (inl (nothing, leaves))) numbered image may = from_nothing g files settled image nothing (leaves image may)
leaves_held g files (left.Unopened now) settled (inl (inr it)) numbered image may =
    from_kept g files settled (state_of now).page_size image (big_size now) it.0 it.1 it.2 it.3 (it.4 image may)
leaves_held g files (left.Unopened now) settled (inr (uncreated, leaves)) numbered image may = from_uncreated g files settled image uncreated (leaves image may)
leaves_held g files (left.Store now) settled (inl leaves) numbered image may = from_store g files settled now image numbered may leaves
leaves_held g files (left.Store now) settled (inr (uncreated, leaves)) numbered image may = from_new g files settled now image numbered may uncreated leaves
