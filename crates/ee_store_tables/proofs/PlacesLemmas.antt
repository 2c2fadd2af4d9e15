-- What an insertion of several lines into `paid` does.
use Rattle.std.proofs.Common.{◌≡◌, ℕ, ◌+◌, pos, List, [], ◌∷◌, map, length, true, false, IsTrue, None, Ok, refl, sym, ap, subst, ◌∙◌, arith, Less, Equal, Greater}
use Rattle.std.specs.Prelude.{drop, ◌&&◌}
use Rattle.std.specs.List.{AllByRecursion}
use Rattle.std.specs.Ordering.{match_ordering, is_eq}
use Rattle.std.specs.FinMap.{FinMap, insert}
use Rattle.std.proofs.lemmas.Bool.{or_parts}
use Rattle.sqlite.specs.declared.types.Value.TheVariants.{Null, Int}
use Rattle.sqlite.specs.Order.{Row, value_cmp}
use Rattle.sqlite.specs.Source.TheVariants.{Values}
use Rattle.sqlite.specs.Command.TheVariants.{Insert}
use Rattle.sqlite.specs.Edit.{edit_of}
use Rattle.sqlite_rules.specs.Edit.{next_rowid, numbered, put_all, is_taken, are_fresh}
use Rattle.sqlite_rules.specs.Cast.{cast_row}
use Rattle.sqlite.specs.Rowids.TheVariants.{Chosen}
use Rattle.sqlite.specs.Does.{Tally, Does}
use Rattle.sqlite.specs.Rows.{Written}
use Rattle.sqlite.specs.Tree.{Trees, rowid, put_row}
use Rattle.sqlite.specs.Effect.{Database, IsDatabase}
use Rattle.sqlite.specs.Listing.{understood}
use Rattle.sqlite.specs.State.{State, mode_of, Executes}
use Rattle.sqlite.proofs.Callers.{statement_of}
use Rattle.sqlite_schema.specs.declared.schema.Constraint.TheVariants.{Unique}
use Rattle.sqlite_schema.specs.Rules.{agree, differ, passes, clashes}
use Rattle.sqlite_value.specs.Keys.{plain}
use Rattle.sqlite_keyed.proofs.RuleLemmas.{first_of_both, second_of_both}
use Rattle.sqlite_keyed.proofs.ListLemmas.{all_weaker, any_from_none, none_from_any}
use Rattle.ee_store_tables.specs.Tables.{paid, HasCounterTables, with_others, others_in}
use Rattle.ee_store_tables.specs.Keyed.{pair_cmp, stored, HoldsPairs}
use Rattle.ee_store_tables.specs.Rows.{number, PaidRow, paid_columns, Rows, Holds, HasRoom, Rises}
use Rattle.ee_store_tables.specs.Inner.Places.{with_places}
use Rattle.ee_store_tables.proofs.UniqueLemmas.{was_new, all_put}
use Rattle.ee_store_tables.proofs.Meaning.{add_four_text, four_terms, add_four_is, add_four_plain}
use Rattle.ee_store_tables.proofs.PairLemmas.{alike_itself}
use Rattle.ee_store_tables.proofs.HoldsLemmas.{pair_total, pair_same, adds_row}
use Rattle.ee_store_tables.proofs.RoomLemmas.{rises_less, room_put}
use Rattle.ee_store_tables.proofs.WriteLemmas.{cast_int, cast_null, went, same_value, not_so, not_foreign, Same, with_paid as with_paid_rows}
use Rattle.ee_store_tables.proofs.OtherLemmas.{one_write, Follows, AllButOne, follows, same_ours}
use Rattle.ee_store_tables.proofs.OurLemmas.{runs_ours}

-- the row of a line, if a table has these rows before it
abbrev pub line_row : List Row → ℕ → ℕ → PaidRow → Row
line_row rows t place x = stored paid_columns (next_rowid rows, ((t, place), x))

-- the rows of lines, from a place on
abbrev pub line_rows : List Row → ℕ → ℕ → List PaidRow → List Row
line_rows rows t place [] = []
line_rows rows t place (x ∷ xs) = line_row rows t place x ∷ line_rows (put_row (line_row rows t place x) rows) t (place + 1) xs

abbrev pub line_sources : ℕ → ℕ → List PaidRow → List Row
line_sources t place [] = []
line_sources t place (x ∷ xs) = (Null ∷ Int (pos t) ∷ Int (pos place) ∷ paid_columns x) ∷ line_sources t (place + 1) xs

abbrev pub places_in : FinMap pair_cmp PaidRow → ℕ → ℕ → List PaidRow → FinMap pair_cmp PaidRow
places_in m t place [] = m
places_in m t place (x ∷ xs) = places_in (insert m (t, place) x) t (place + 1) xs

one_cast : (t place : ℕ) (x : PaidRow) → cast_row paid (Null ∷ Int (pos t) ∷ Int (pos place) ∷ paid_columns x) ≡ Null ∷ Int (pos t) ∷ Int (pos place) ∷ paid_columns x
one_cast t place x = rw (cast_null, cast_int t, cast_int place, cast_int x.letter, cast_int x.number, cast_int x.cents) refl

pub numbered_are : (rows : List Row) (t place : ℕ) (xs : List PaidRow) → numbered Chosen rows (map (λ s. cast_row paid (drop 0 s)) (line_sources t place xs)) ≡ line_rows rows t place xs
numbered_are rows t place [] = refl
numbered_are rows t place (x ∷ xs) =
    ap (λ r. numbered Chosen rows (r ∷ map (λ s. cast_row paid (drop 0 s)) (line_sources t (place + 1) xs))) (one_cast t place x)
    ∙ ap (λ more. line_row rows t place x ∷ more) (numbered_are (put_row (line_row rows t place x) rows) t (place + 1) xs)

-- ---- what holds after rows were put in held before

one_before : (P : Row → Type 0) (new : Row) (rows : List Row) → is_taken rows new ≡ false → AllByRecursion P (put_row new rows) → AllByRecursion P rows
one_before P new [] free h = tt
one_before P new (r ∷ rs) free h =
    let two = or_parts (is_eq (value_cmp (rowid r) (rowid new))) (is_taken rs new) free in
    elim (value_cmp (rowid r) (rowid new)) as (λ o. is_eq o ≡ false → AllByRecursion P (match_ordering o (r ∷ put_row new rs) (new ∷ rs) (new ∷ r ∷ rs)) → AllByRecursion P (r ∷ rs)) [
      | Less ↦ λ e a. (a.0, one_before P new rs two.1 a.1)
      | Equal ↦ λ e a. absurd cc
      | Greater ↦ λ e a. a.1
    ] two.0 h

pub all_before : (P : Row → Type 0) (news rows : List Row) → are_fresh rows news ≡ true → AllByRecursion P (put_all rows news) → AllByRecursion P rows
all_before P [] rows fresh h = h
all_before P (new ∷ news) rows fresh h = one_before P new rows (not_so _ (first_of_both _ _ fresh)) (all_before P news (put_row new rows) (second_of_both _ _ fresh) h)

pub apart_before : (places : List ℕ) (r : Row) (news rows : List Row) → are_fresh rows news ≡ true → clashes plain places (put_all rows news) r ≡ false → clashes plain places rows r ≡ false
apart_before places r news rows fresh h =
    any_from_none (λ x. agree plain places x places r && differ (rowid x) (rowid r)) rows
    (all_before (λ x. (agree plain places x places r && differ (rowid x) (rowid r)) ≡ false) news rows fresh (none_from_any (λ x. agree plain places x places r && differ (rowid x) (rowid r)) (put_all rows news) h))

pub places_hold : (t place : ℕ) (xs : List PaidRow) (rows : List Row) (m : FinMap pair_cmp PaidRow) → HoldsPairs paid_columns rows m → are_fresh rows (line_rows rows t place xs) ≡ true
    → AllByRecursion (λ r. clashes plain (1 ∷ 2 ∷ []) (put_all rows (line_rows rows t place xs)) r ≡ false) (put_all rows (line_rows rows t place xs))
    → HoldsPairs paid_columns (put_all rows (line_rows rows t place xs)) (places_in m t place xs)
places_hold t place [] rows m held fresh apart = held
places_hold t place (x ∷ xs) rows m held fresh apart =
    let row = line_row rows t place x in
    let later = line_rows (put_row row rows) t (place + 1) xs in
    let free : is_taken rows row ≡ false = not_so _ (first_of_both _ _ fresh) in
    let more : are_fresh (put_row row rows) later ≡ true = second_of_both _ _ fresh in
    let own : clashes plain (1 ∷ 2 ∷ []) (put_all (put_row row rows) later) row ≡ false =
    all_put (λ r. clashes plain (1 ∷ 2 ∷ []) (put_all (put_row row rows) later) r ≡ false) row rows (all_before _ later (put_row row rows) more apart) in
    let none = was_new paid_columns (t, place) x rows m held (next_rowid rows) free (apart_before (1 ∷ 2 ∷ []) row later (put_row row rows) more own) in
    places_hold t (place + 1) xs (put_row row rows) (insert m (t, place) x)
    (adds_row pair_total pair_same (stored paid_columns) (λ _. refl) (t, place) rows m held row (next_rowid rows) x (alike_itself row) none free) more apart

-- ---- four lines by one statement

abbrev pub given_four : ℕ → ℕ → PaidRow → PaidRow → PaidRow → PaidRow → Row
given_four t place a b c d = number t ∷ number place ∷ number a.letter ∷ number a.number ∷ number a.cents ∷ number (place + 1) ∷ number b.letter ∷ number b.number ∷ number b.cents
    ∷ number (place + 1 + 1) ∷ number c.letter ∷ number c.number ∷ number c.cents ∷ number (place + 1 + 1 + 1) ∷ number d.letter ∷ number d.number ∷ number d.cents ∷ []

pub adds_four : (old new : State) (t place : ℕ) (a b c d : PaidRow) (count : ℕ) → HasCounterTables old.now.schema → Executes add_four_text (given_four t place a b c d) old new (Ok count)
    → Follows old.now new.now × ((rows : Rows) → Holds old.now.trees rows → Holds new.now.trees (with_places rows t place (a ∷ b ∷ c ∷ d ∷ []))) × IsDatabase new.now × Same 7 old.now.trees new.now.trees
    × (new.now.trees 7 ≡ put_all (old.now.trees 7) (line_rows (old.now.trees 7) t place (a ∷ b ∷ c ∷ d ∷ [])))
adds_four old new t place a b c d count has h =
    let params = given_four t place a b c d in
    let lines = a ∷ b ∷ c ∷ d ∷ [] in
    let db = old.now.trees in
    let command = Insert 4 (Values four_terms 6) in
    let w = runs_ours add_four_text params old new has command add_four_is add_four_plain count h in
    let text = statement_of add_four_text (understood (with_others (others_in old.now.schema)) add_four_text) in
    let done = went (subst (λ s. Does old.step_limit (mode_of old) params (record old.now { schema = s }) text None command (Ok (w.tally, new.now))) has.ours w.changed) in
    let now = ap (λ (p : Tally × Database). p.1) (same_value (went (went done.2).2).2) in
    let given_rows = went done.1 in
    let written = went (went given_rows.2).2 in
    let counted = went written.2 in
    let trees : done.0.trees ≡ written.0 = ap (λ (it : Written). it.trees) (same_value counted.2) ∙ same_value counted.1 in
    let edit = edit_of db paid [] Chosen 0 given_rows.0 in
    let applied = one_write (others_in old.now.schema) has.others _ db written.0 edit written.1 in
    let put_in = line_rows (db 7) t place lines in
    let news : edit.news ≡ put_in = ap (λ all. (edit_of db paid [] Chosen 0 all).news) given_rows.1.1 ∙ numbered_are (db 7) t place lines in
    let put : written.0 7 ≡ put_all (db 7) put_in = applied.rows ∙ ap (put_all (db 7)) news in
    let fresh : are_fresh (db 7) put_in ≡ true = subst (λ all. are_fresh (db 7) all ≡ true) news applied.fresh in
    let unique = subst (AllByRecursion (λ r. passes Unique (with_others (others_in old.now.schema)) written.0 paid r ≡ true)) put (applied.fits.rules Unique not_foreign).1.1.1.1.0 in
    let apart : AllByRecursion (λ r. clashes plain (1 ∷ 2 ∷ []) (put_all (db 7) put_in) r ≡ false) (put_all (db 7) put_in) =
    all_weaker (λ r. passes Unique (with_others (others_in old.now.schema)) written.0 paid r ≡ true) (λ r. clashes plain (1 ∷ 2 ∷ []) (put_all (db 7) put_in) r ≡ false)
    (λ r one. subst (λ rs. clashes plain (1 ∷ 2 ∷ []) rs r ≡ false) put (not_so _ (first_of_both _ _ one))) (put_all (db 7) put_in) unique in
    let after : new.now.trees ≡ written.0 = ap (λ (d : Database). d.trees) now ∙ trees in
    let kept : AllButOne (others_in old.now.schema) 7 db new.now.trees = subst (AllButOne (others_in old.now.schema) 7 db) (sym after) applied.tables in
    let same : Same 7 db new.now.trees = same_ours (others_in old.now.schema) 7 db new.now.trees kept in (
      follows old.now new.now has 7 (omega arith) (ap (λ (d : Database). d.schema) now) kept,
      λ rows stands.
          with_paid_rows db new.now.trees rows stands (places_in rows.paid t place lines) same
          (subst (λ rs. HoldsPairs paid_columns rs (places_in rows.paid t place lines)) (sym (ap (λ (trees : Trees). trees 7) after ∙ put)) (places_hold t place lines (db 7) rows.paid stands.paid fresh apart)),
      w.sound,
      same,
      ap (λ (trees : Trees). trees 7) after ∙ put,
    )

-- ---- the room that is left

rises_put : (n t place : ℕ) (xs : List PaidRow) (rows : List Row) → Rises 1 (n + length xs) rows → Rises 1 n (put_all rows (line_rows rows t place xs))
rises_put n t place [] rows room = rises_less 1 n (n + 0) (omega arith) rows room
rises_put n t place (x ∷ xs) rows room =
    rises_put n t (place + 1) xs (put_row (line_row rows t place x) rows) (room_put (n + length xs) rows (line_row rows t place x) refl (rises_less 1 (n + length xs + 1) (n + length (x ∷ xs)) (omega arith) rows room))

pub room_lines : (old new : State) (n t place : ℕ) (xs : List PaidRow) → Same 7 old.now.trees new.now.trees → new.now.trees 7 ≡ put_all (old.now.trees 7) (line_rows (old.now.trees 7) t place xs) → IsDatabase new.now → IsTrue old.is_open
    → HasRoom (n + length xs) old → HasRoom n new
room_lines old new n t place xs same put sound was_open room _ =
    let it = (room was_open).1 in
    (sound, (subst (Rises 1 n) (sym (same.1.1.0 (λ e. omega (arith, e)))) (rises_less 1 n (n + length xs) (omega arith) _ it.0), subst (Rises 1 n) (sym put) (rises_put n t place xs (old.now.trees 7) it.1), subst (Rises 1 n) (sym (same.1.1.1.1.1.1.1.0 (λ e. omega (arith, e)))) (rises_less 1 n (n + length xs) (omega arith) _ it.2)))
