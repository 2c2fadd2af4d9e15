-- Why an insertion of several lines into `paid` is not refused.
use Rattle.std.proofs.Common.{◌≡◌, ◌≢◌, inl, inr, ℕ, ◌+◌, pos, List, [], ◌∷◌, length, true, false, None, Option, Err, refl, ap, subst, ◌∙◌, arith}
use Rattle.std.specs.Prelude.{⊤}
use Rattle.std.specs.List.{AllByRecursion, list_all}
use Rattle.std.specs.FinMap.{FinMap, get, insert, entries}
use Rattle.sqlite.specs.declared.types.Value.TheVariants.{Int}
use Rattle.sqlite.specs.declared.error.Error.{Error}
use Rattle.sqlite.specs.Order.{Row}
use Rattle.sqlite.specs.Tree.{Trees, rowid, put_row, with_tree}
use Rattle.sqlite.specs.Source.TheVariants.{Values}
use Rattle.sqlite.specs.Command.TheVariants.{Insert}
use Rattle.sqlite.specs.Rows.{Edited}
use Rattle.sqlite_rules.specs.Edit.{Edit, edit_of, edited, id_in, next_rowid, put_all, is_taken, are_fresh, IsOversized}
use Rattle.sqlite_rules.specs.Lists.{Has}
use Rattle.sqlite.specs.Rowids.TheVariants.{Chosen}
use Rattle.sqlite_sql.specs.Ops.{fits_i64}
use Rattle.sqlite_schema.specs.declared.schema.Keys.TheVariants.{Enforced}
use Rattle.sqlite_schema.specs.declared.schema.Constraint.TheVariants.{Unique}
use Rattle.sqlite_schema.specs.Rules.{Keeps, clashes}
use Rattle.sqlite_value.specs.Keys.{plain}
use Rattle.sqlite_keyed.proofs.RuleLemmas.{first_of_both}
use Rattle.sqlite.specs.Schema.{Schema}
use Rattle.ee_store_tables.specs.Tables.{paid, with_others, AreOthers}
use Rattle.ee_store_tables.specs.Keyed.{pair_cmp, stored, HoldsPairs}
use Rattle.ee_store_tables.specs.Rows.{Rows, Holds, PaidRow, paid_columns, Rises}
use Rattle.ee_store_tables.specs.Inner.Places.{CanPlaceAll}
use Rattle.ee_store_tables.proofs.Meaning.{four_terms}
use Rattle.ee_store_tables.proofs.PairLemmas.{alike_itself}
use Rattle.ee_store_tables.proofs.HoldsLemmas.{pair_total, pair_same, adds_row}
use Rattle.ee_store_tables.proofs.PlacesLemmas.{line_row, line_rows, line_sources, numbered_are, given_four}
use Rattle.ee_store_tables.proofs.CauseLemmas.{NeverStops, never_false}
use Rattle.ee_store_tables.proofs.RefusalLemmas.{passed, no_stop, never_source, never_sourced, IsAllowed, never_edited, bare_storable, one_fits, never_concluded, all_unique, number_fits}
use Rattle.ee_store_tables.proofs.KeyLemmas.{IsOther, put_apart, same_rowid, places_apart, paid_apart, paid_unique, other_key, all_alike, keys_differ, bonds_differ}
use Rattle.ee_store_tables.proofs.RoomLemmas.{HasNext, has_next}
use Rattle.ee_store_tables.proofs.OtherLemmas.{no_acts, unindexed}

-- no line pays this bond
abbrev pub NonePays : FinMap pair_cmp PaidRow → ℕ × ℕ → Type 0
NonePays m k = AllByRecursion (λ e. (e.1.letter, e.1.number) ≢ k) (entries m)

-- no line has one of the places, and none pays one of the bonds
abbrev pub CanPut : FinMap pair_cmp PaidRow → ℕ → ℕ → List PaidRow → Type 0
CanPut m t place [] = ⊤
CanPut m t place (x ∷ xs) = ((get m (t, place) ≡ None) × NonePays m (x.letter, x.number)) × CanPut (insert m (t, place) x) t (place + 1) xs

-- what the rules between rows say of rows that are put in
pub record PutsAll (rows news : List Row) : Type 0 where
  pub fresh : are_fresh rows news ≡ true
  pub fits : list_all (λ r. fits_i64 (id_in (rowid r))) news ≡ true
  pub places : AllByRecursion (λ r. clashes plain (1 ∷ 2 ∷ []) (put_all rows news) r ≡ false) (put_all rows news)
  pub bonds : AllByRecursion (λ r. clashes plain (3 ∷ 4 ∷ []) (put_all rows news) r ≡ false) (put_all rows news)

pub puts_all : (t place : ℕ) (xs : List PaidRow) (rows : List Row) (m : FinMap pair_cmp PaidRow) → HoldsPairs paid_columns rows m → CanPut m t place xs → Rises 1 (length xs) rows
    → AllByRecursion (λ r. clashes plain (1 ∷ 2 ∷ []) rows r ≡ false) rows → AllByRecursion (λ r. clashes plain (3 ∷ 4 ∷ []) rows r ≡ false) rows → PutsAll rows (line_rows rows t place xs)
puts_all t place [] rows m held can room places bonds = record { fresh = refl; fits = refl; places = places; bonds = bonds }
puts_all t place (x ∷ xs) rows m held can room places bonds =
    let id = next_rowid rows in
    let row = line_row rows t place x in
    let next : HasNext 1 (length (x ∷ xs)) rows = has_next 1 (length (x ∷ xs)) rows room in
    let free : is_taken rows row ≡ false = next.fresh row (ap Int next.next) in
    let fits : fits_i64 id ≡ true = ap fits_i64 next.next ∙ first_of_both _ _ (number_fits next.top (omega (arith, next.room))) in
    let other_places : AllByRecursion (IsOther (1 ∷ 2 ∷ []) row rows) rows = all_alike (stored paid_columns) (IsOther (1 ∷ 2 ∷ []) row rows) (λ p. ¬ ((p.1.0.0 ≡ t) × (p.1.0.1 ≡ place)))
    (λ r p alike apart. other_key 1 2 row r p.1.0.0 p.1.0.1 t place refl refl (alike 1) (alike 2) apart) rows held.numbered held.are (keys_differ paid_columns (t, place) rows m held can.0.0) in
    let other_bonds : AllByRecursion (IsOther (3 ∷ 4 ∷ []) row rows) rows = all_alike (stored paid_columns) (IsOther (3 ∷ 4 ∷ []) row rows) (λ p. ¬ ((p.1.1.letter ≡ x.letter) × (p.1.1.number ≡ x.number)))
    (λ r p alike apart. other_key 3 4 row r p.1.1.letter p.1.1.number x.letter x.number refl refl (alike 3) (alike 4) apart) rows held.numbered held.are (bonds_differ (x.letter, x.number) rows m held can.0.1) in
    let rest = puts_all t (place + 1) xs (put_row row rows) (insert m (t, place) x) (adds_row pair_total pair_same (stored paid_columns) (λ _. refl) (t, place) rows m held row id x (alike_itself row) can.0.0 free) can.1
    (next.put row (ap Int next.next) (length xs) (omega arith)) (put_apart (1 ∷ 2 ∷ []) row rows (same_rowid id) other_places places) (put_apart (3 ∷ 4 ∷ []) row rows (same_rowid id) other_bonds bonds) in
    record { fresh = rw (free, rest.fresh) refl; fits = rw (fits, rest.fits) refl; places = rest.places; bonds = rest.bonds }

-- each row may be stored, and so may its entries in the indexes
pub lines_small : (others : Schema) → AreOthers others → (t place : ℕ) (xs : List PaidRow) (rows : List Row) (r : Row) → Has (line_rows rows t place xs) r → ¬ IsOversized (with_others others) paid r
lines_small others them t place [] rows r h = absurd h
lines_small others them t place (x ∷ xs) rows r (inr later) = lines_small others them t (place + 1) xs (put_row (line_row rows t place x) rows) r later
lines_small others them t place (x ∷ xs) rows r (inl same) =
    let row = line_row rows t place x in
    one_fits (with_others others) paid row (bare_storable row refl (omega arith) (omega arith), omega arith) (
      λ e. absurd (omega (arith, e)),
      (
        λ e. absurd (omega (arith, e)),
        (
          λ e. absurd (omega (arith, e)),
          (
            λ e. bare_storable (Int (pos t) ∷ Int (pos place) ∷ Int (next_rowid rows) ∷ []) refl (omega arith) (omega arith),
            (λ e. bare_storable (Int (pos x.letter) ∷ Int (pos x.number) ∷ Int (next_rowid rows) ∷ []) refl (omega arith) (omega arith), (λ e. absurd (omega (arith, e)), unindexed others them 7 (omega arith) _)),
          ),
        ),
      ),
    ) r (inl same)

-- ---- four lines by one statement

module _ (others : Schema) (them : AreOthers others) (db : Trees) (rows : Rows) (stands : Holds db rows) (unique : Keeps Unique (with_others others) db) (room : Rises 1 4 (db 7)) (t place : ℕ) (a b c d : PaidRow) (can : CanPlaceAll rows t place (a ∷ b ∷ c ∷ d ∷ [])) where
  abbrev four : List PaidRow
  four = a ∷ b ∷ c ∷ d ∷ []

  abbrev news : List Row
  news = line_rows (db 7) t place four

  abbrev four_edit : List Row → Edit
  four_edit news = record { table = paid; gone = []; news = news }

  puts : PutsAll (db 7) news
  puts = puts_all t place four (db 7) rows.paid stands.paid can room (places_apart others db unique.1.1.1.1.0) (paid_apart others db unique.1.1.1.1.0)

  four_unique : Keeps Unique (with_others others) (with_tree db 7 (edited db (four_edit news)))
  four_unique = all_unique others them db 7 (omega arith) (edited db (four_edit news)) unique unique.1.1.0 (paid_unique others them (with_tree db 7 (edited db (four_edit news))) puts.places puts.bonds) unique.1.1.1.1.1.1.1.0

  four_allowed : IsAllowed (with_others others) Enforced db (four_edit news)
  four_allowed = record {
    typed = refl;
    present = refl;
    checked = refl;
    fresh = puts.fresh;
    unique = four_unique;
    keyed = refl;
    fits = puts.fits;
    referred = refl;
    acts = no_acts others them Enforced db (four_edit news);
    small = lines_small others them t place four (db 7);
  }

  four_edited : (sources : List Row) → sources ≡ line_sources t place four → (stop : Option Error) → ¬ Edited (with_others others) Enforced db (edit_of db paid [] Chosen 0 sources) (Err stop)
  four_edited sources is stop h =
      let same : edit_of db paid [] Chosen 0 sources ≡ four_edit news = ap (λ all. edit_of db paid [] Chosen 0 all) is ∙ ap four_edit (numbered_are (db 7) t place four) in
      never_edited (with_others others) Enforced db (four_edit news) four_allowed stop (subst (λ e. Edited (with_others others) Enforced db e (Err stop)) same h)

  pub add_four_stays : NeverStops others db (given_four t place a b c d) None (Insert 4 (Values four_terms 6))
  add_four_stays text stop h =
      let written = passed h (λ s w.
      let given = passed w (never_sourced (record { schema = (with_others others); trees = db }) (given_four t place a b c d) (Values four_terms 6) (λ e r. never_source never_false r)) in
      let counter = passed given.2 (λ s e. no_stop e) in
      let edited = passed counter.2 (four_edited given.0 given.1.1) in
      let counted = passed edited.2 (λ s e. no_stop e) in
      no_stop counted.2) in
      never_concluded others them paid (given_four t place a b c d) written.0 stop written.2
