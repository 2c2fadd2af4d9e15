-- What a plain insertion of bonds does to their table.
use Rattle.std.proofs.Common.{◌≡◌, inl, inr, ℕ, ◌+◌, List, [], ◌∷◌, map, length, true, false, IsTrue, None, Some, Option, refl, sym, ap, subst, ◌∙◌, arith}
use Rattle.std.specs.Prelude.{⊤, drop}
use Rattle.std.specs.List.{AllByRecursion, list_all}
use Rattle.std.specs.FinMap.{FinMap, get}
use Rattle.sqlite.specs.declared.types.Value.TheVariants.{Null, Int}
use Rattle.sqlite.specs.Order.{Row}
use Rattle.sqlite_rules.specs.Edit.{id_in, next_rowid, numbered, put_all, is_taken, are_fresh, IsOversized}
use Rattle.sqlite_rules.specs.Cast.{cast_row}
use Rattle.sqlite_rules.specs.Lists.{Has}
use Rattle.sqlite.specs.Rowids.TheVariants.{Chosen}
use Rattle.sqlite.specs.Tree.{Trees, rowid, put_row}
use Rattle.sqlite.specs.Effect.{IsDatabase}
use Rattle.sqlite.specs.State.{State}
use Rattle.sqlite_sql.specs.Ops.{fits_i64}
use Rattle.sqlite_schema.specs.declared.schema.Constraint.TheVariants.{Datatype}
use Rattle.sqlite_schema.specs.Rules.{clashes, passes}
use Rattle.sqlite_value.specs.Keys.{plain}
use Rattle.sqlite_keyed.proofs.RuleLemmas.{first_of_both, second_of_both}
use Rattle.ee_store_tables.specs.declared.records.UnpaidBond.{UnpaidBond}
use Rattle.ee_store_tables.specs.AsRows.{key_of_unpaid, row_of_unpaid, entry_of_unpaid}
use Rattle.sqlite.specs.Schema.{Schema}
use Rattle.ee_store_tables.specs.Tables.{bonds, with_others, AreOthers}
use Rattle.ee_store_tables.specs.Keyed.{pair_cmp, stored, HoldsPairs}
use Rattle.ee_store_tables.specs.Rows.{number, optional, BondRow, bond_columns, insert_new, HasRoom, Rises}
use Rattle.ee_store_tables.proofs.UniqueLemmas.{was_new, all_put}
use Rattle.ee_store_tables.proofs.PairLemmas.{alike_itself}
use Rattle.ee_store_tables.proofs.HoldsLemmas.{pair_total, pair_same, adds_row}
use Rattle.ee_store_tables.proofs.KeyLemmas.{IsOther, put_apart, same_rowid, other_key, all_alike, keys_differ}
use Rattle.ee_store_tables.proofs.RefusalLemmas.{bare_optional, bare_storable, one_fits, number_fits}
use Rattle.ee_store_tables.proofs.RoomLemmas.{HasNext, has_next, rises_less, room_put}
use Rattle.ee_store_tables.proofs.PlacesLemmas.{all_before, apart_before}
use Rattle.ee_store_tables.proofs.WriteLemmas.{cast_int, cast_null, cast_optional, not_so, Same}
use Rattle.ee_store_tables.proofs.OtherLemmas.{unindexed}

-- the row of a bond, if a table has these rows before it
abbrev pub bond_row : List Row → UnpaidBond → Row
bond_row rows x = stored bond_columns (next_rowid rows, entry_of_unpaid x)

-- the rows of bonds
abbrev pub bond_rows : List Row → List UnpaidBond → List Row
bond_rows rows [] = []
bond_rows rows (x ∷ xs) = bond_row rows x ∷ bond_rows (put_row (bond_row rows x) rows) xs

-- what is inserted for them
abbrev pub bond_source : UnpaidBond → Row
bond_source x = Null ∷ number x.letter ∷ number x.number ∷ number x.denom ∷ number x.issued ∷ number x.owner ∷ optional x.coowner ∷ Null ∷ []

abbrev pub bonds_in : FinMap pair_cmp BondRow → List UnpaidBond → FinMap pair_cmp BondRow
bonds_in m [] = m
bonds_in m (x ∷ xs) = bonds_in (insert_new m (key_of_unpaid x) (row_of_unpaid x) (get m (key_of_unpaid x))) xs

one_cast : (x : UnpaidBond) → cast_row bonds (bond_source x) ≡ bond_source x
one_cast x = rw (cast_null, cast_int x.letter, cast_int x.number, cast_int x.denom, cast_int x.issued, cast_int x.owner, cast_optional x.coowner) refl

pub numbered_bonds : (rows : List Row) (xs : List UnpaidBond) → numbered Chosen rows (map (λ s. cast_row bonds (drop 0 s)) (map bond_source xs)) ≡ bond_rows rows xs
numbered_bonds rows [] = refl
numbered_bonds rows (x ∷ xs) =
    ap (λ r. numbered Chosen rows (r ∷ map (λ s. cast_row bonds (drop 0 s)) (map bond_source xs))) (one_cast x)
    ∙ ap (λ more. bond_row rows x ∷ more) (numbered_bonds (put_row (bond_row rows x) rows) xs)

-- rows that were put in are those of bonds that were new
pub bonds_hold : (xs : List UnpaidBond) (rows : List Row) (m : FinMap pair_cmp BondRow) → HoldsPairs bond_columns rows m → are_fresh rows (bond_rows rows xs) ≡ true
    → AllByRecursion (λ r. clashes plain (1 ∷ 2 ∷ []) (put_all rows (bond_rows rows xs)) r ≡ false) (put_all rows (bond_rows rows xs))
    → HoldsPairs bond_columns (put_all rows (bond_rows rows xs)) (bonds_in m xs)
bonds_hold [] rows m held fresh apart = held
bonds_hold (x ∷ xs) rows m held fresh apart =
    let k = key_of_unpaid x in
    let row = bond_row rows x in
    let later = bond_rows (put_row row rows) xs in
    let free : is_taken rows row ≡ false = not_so _ (first_of_both _ _ fresh) in
    let more : are_fresh (put_row row rows) later ≡ true = second_of_both _ _ fresh in
    let own : clashes plain (1 ∷ 2 ∷ []) (put_all (put_row row rows) later) row ≡ false =
    all_put (λ r. clashes plain (1 ∷ 2 ∷ []) (put_all (put_row row rows) later) r ≡ false) row rows (all_before _ later (put_row row rows) more apart) in
    let none = was_new bond_columns k (row_of_unpaid x) rows m held (next_rowid rows) free (apart_before (1 ∷ 2 ∷ []) row later (put_row row rows) more own) in
    bonds_hold xs (put_row row rows) (insert_new m k (row_of_unpaid x) (get m k))
    (subst (λ o. HoldsPairs bond_columns (put_row row rows) (insert_new m k (row_of_unpaid x) o)) (sym none)
    (adds_row pair_total pair_same (stored bond_columns) (λ _. refl) k rows m held row (next_rowid rows) (row_of_unpaid x) (alike_itself row) none free)) more apart

-- ---- why the insertion isn't refused

-- no serial number has a bond
abbrev pub CanPut : FinMap pair_cmp BondRow → List UnpaidBond → Type 0
CanPut m [] = ⊤
CanPut m (x ∷ xs) = (get m (key_of_unpaid x) ≡ None) × CanPut (insert_new m (key_of_unpaid x) (row_of_unpaid x) (get m (key_of_unpaid x))) xs

-- what the rules between rows say of rows that are put in
pub record PutsBonds (rows news : List Row) : Type 0 where
  pub fresh : are_fresh rows news ≡ true
  pub fits : list_all (λ r. fits_i64 (id_in (rowid r))) news ≡ true
  pub serials : AllByRecursion (λ r. clashes plain (1 ∷ 2 ∷ []) (put_all rows news) r ≡ false) (put_all rows news)

pub puts_bonds : (xs : List UnpaidBond) (rows : List Row) (m : FinMap pair_cmp BondRow) → HoldsPairs bond_columns rows m → CanPut m xs → Rises 1 (length xs) rows
    → AllByRecursion (λ r. clashes plain (1 ∷ 2 ∷ []) rows r ≡ false) rows → PutsBonds rows (bond_rows rows xs)
puts_bonds [] rows m held can room serials = record { fresh = refl; fits = refl; serials = serials }
puts_bonds (x ∷ xs) rows m held can room serials =
    let k = key_of_unpaid x in
    let id = next_rowid rows in
    let row = bond_row rows x in
    let next : HasNext 1 (length (x ∷ xs)) rows = has_next 1 (length (x ∷ xs)) rows room in
    let free : is_taken rows row ≡ false = next.fresh row (ap Int next.next) in
    let fits : fits_i64 id ≡ true = ap fits_i64 next.next ∙ first_of_both _ _ (number_fits next.top (omega (arith, next.room))) in
    let others : AllByRecursion (IsOther (1 ∷ 2 ∷ []) row rows) rows = all_alike (stored bond_columns) (IsOther (1 ∷ 2 ∷ []) row rows) (λ p. ¬ ((p.1.0.0 ≡ k.0) × (p.1.0.1 ≡ k.1)))
    (λ r p alike apart. other_key 1 2 row r p.1.0.0 p.1.0.1 k.0 k.1 refl refl (alike 1) (alike 2) apart) rows held.numbered held.are (keys_differ bond_columns k rows m held can.0) in
    let rest = puts_bonds xs (put_row row rows) (insert_new m k (row_of_unpaid x) (get m k))
    (subst (λ o. HoldsPairs bond_columns (put_row row rows) (insert_new m k (row_of_unpaid x) o)) (sym can.0)
    (adds_row pair_total pair_same (stored bond_columns) (λ _. refl) k rows m held row id (row_of_unpaid x) (alike_itself row) can.0 free)) can.1
    (next.put row (ap Int next.next) (length xs) (omega arith)) (put_apart (1 ∷ 2 ∷ []) row rows (same_rowid id) others serials) in
    record { fresh = rw (free, rest.fresh) refl; fits = rw (fits, rest.fits) refl; serials = rest.serials }

-- the columns have their types
bond_typed : (others : Schema) (db : Trees) (rows : List Row) (x : UnpaidBond) (o : Option ℕ) → o ≡ x.coowner → passes Datatype (with_others others) db bonds (bond_row rows x) ≡ true
bond_typed others db rows x None is = subst (λ o. passes Datatype (with_others others) db bonds (Int (next_rowid rows) ∷ number x.letter ∷ number x.number ∷ number x.denom ∷ number x.issued ∷ number x.owner ∷ optional o ∷ Null ∷ []) ≡ true) is refl
bond_typed others db rows x (Some n) is = subst (λ o. passes Datatype (with_others others) db bonds (Int (next_rowid rows) ∷ number x.letter ∷ number x.number ∷ number x.denom ∷ number x.issued ∷ number x.owner ∷ optional o ∷ Null ∷ []) ≡ true) is refl

pub bonds_typed : (others : Schema) (db : Trees) (xs : List UnpaidBond) (rows : List Row) → list_all (passes Datatype (with_others others) db bonds) (bond_rows rows xs) ≡ true
bonds_typed others db [] rows = refl
bonds_typed others db (x ∷ xs) rows = rw (bond_typed others db rows x x.coowner refl, bonds_typed others db xs (put_row (bond_row rows x) rows)) refl

-- each row may be stored, and so may its entries in the indexes
pub bonds_small : (others : Schema) → AreOthers others → (xs : List UnpaidBond) (rows : List Row) (r : Row) → Has (bond_rows rows xs) r → ¬ IsOversized (with_others others) bonds r
bonds_small others them [] rows r h = absurd h
bonds_small others them (x ∷ xs) rows r (inr later) = bonds_small others them xs (put_row (bond_row rows x) rows) r later
bonds_small others them (x ∷ xs) rows r (inl same) =
    let row = bond_row rows x in
    one_fits (with_others others) bonds row (bare_storable row (rw (bare_optional x.coowner) refl) (omega arith) (omega arith), omega arith) (
      λ e. bare_storable (number x.letter ∷ number x.number ∷ Int (next_rowid rows) ∷ []) refl (omega arith) (omega arith),
      (
        λ e. bare_storable (number x.owner ∷ number x.letter ∷ number x.number ∷ Int (next_rowid rows) ∷ []) refl (omega arith) (omega arith),
        (λ e. absurd (omega (arith, e)), (λ e. absurd (omega (arith, e)), (λ e. absurd (omega (arith, e)), (λ e. absurd (omega (arith, e)), unindexed others them 2 (omega arith) _)))),
      ),
    ) r (inl same)

-- ---- the room that is left

rises_put : (n : ℕ) (xs : List UnpaidBond) (rows : List Row) → Rises 1 (n + length xs) rows → Rises 1 n (put_all rows (bond_rows rows xs))
rises_put n [] rows room = rises_less 1 n (n + 0) (omega arith) rows room
rises_put n (x ∷ xs) rows room =
    rises_put n xs (put_row (bond_row rows x) rows) (room_put (n + length xs) rows (bond_row rows x) refl (rises_less 1 (n + length xs + 1) (n + length (x ∷ xs)) (omega arith) rows room))

pub room_bonds : (old new : State) (n : ℕ) (xs : List UnpaidBond) → Same 2 old.now.trees new.now.trees → new.now.trees 2 ≡ put_all (old.now.trees 2) (bond_rows (old.now.trees 2) xs) → IsDatabase new.now → IsTrue old.is_open
    → HasRoom (n + length xs) old → HasRoom n new
room_bonds old new n xs same put sound was_open room _ =
    let it = (room was_open).1 in
    (sound, (subst (Rises 1 n) (sym put) (rises_put n xs (old.now.trees 2) it.0), subst (Rises 1 n) (sym (same.1.1.1.1.0 (λ e. omega (arith, e)))) (rises_less 1 n (n + length xs) (omega arith) _ it.1), subst (Rises 1 n) (sym (same.1.1.1.1.1.1.1.0 (λ e. omega (arith, e)))) (rises_less 1 n (n + length xs) (omega arith) _ it.2)))
