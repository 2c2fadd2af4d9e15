-- From the rows that were read to the map that a table holds, for each kind of key.
use Rattle.std.proofs.Common.{◌≡◌, ◌≢◌, ℕ, ℤ, pos, List, [], ◌∷◌, map, length, Bool, true, Some, Option, refl, sym, ap, subst, ◌∙◌, arith, Less, nat_cmp, int_cmp, T}
use Rattle.std.specs.Prelude.{IsPermutation, ◌&&◌, ◌+◌, ◌≤◌, nat_lt, int_lt, drop}
use Rattle.std.specs.List.{AllByRecursion}
use Rattle.std.specs.Ordering.{is_lt}
use Rattle.std.specs.FinMap.{from_sorted}
use Rattle.std.specs.FinMap.Entries.{is_sorted, below_all}
use Rattle.std.proofs.lemmas.Cmp.{int_cmp_total}
use Rattle.std.proofs.lemmas.Bool.Decides.{nat_tests}
use Rattle.std.proofs.lemmas.Int.{ints}
use Rattle.std.specs.Cmp.{tied_itself}
use Rattle.std.proofs.lemmas.List.Sorted.{IsPermutation-map, IsPermutation-sym}
use Rattle.std.proofs.Math.Facts.{and_yes}
use Rattle.sqlite.specs.declared.types.Value.{Value}
use Rattle.sqlite.specs.declared.types.Value.TheVariants.{Null, Int, Real, Text, Blob}
use Rattle.sqlite.specs.Term.{Term}
use Rattle.sqlite_value.specs.Order.{Row, column}
use Rattle.sqlite_schema.specs.declared.schema.Column.{Column}
use Rattle.sqlite_schema.specs.Rules.{are_typed}
use Rattle.sqlite_sql.specs.Ops.{is_null}
use Rattle.sqlite_keyed.proofs.ListLemmas.{map-map, map_same, map_back, all_unmap}
use Rattle.sqlite_keyed.proofs.RuleLemmas.{first_of_both, second_of_both}
use Rattle.ee_store_tables.specs.Keyed.{pair_cmp, row_of, stored, ReadAlike, HoldsMap, HoldsPairs}
use Rattle.ee_store_tables.proofs.Lemmas.Rows.{int_in, natural, number_in}
use Rattle.ee_store_load.specs.Reading.{rises}
use Rattle.ee_store_load.specs.Inner.Reading.{shown_by}
use Rattle.ee_store_load.specs.Shown.{pair_lt}
use Rattle.ee_store_load.proofs.FoundLemmas.{alls, AllApart, apart_permuted, each_shown, holds_table}

-- ---- tests of keys

pub rises_same : {A : Type 0} (p q : A → A → Bool) → ((a b : A) → p a b ≡ q a b) → (xs : List A) → rises p xs ≡ rises q xs
rises_same p q same [] = refl
rises_same p q same (x ∷ []) = refl
rises_same p q same (x ∷ y ∷ ys) = ap (λ b. b && rises p (y ∷ ys)) (same x y) ∙ ap (λ b. q x y && b) (rises_same p q same (y ∷ ys))

pub number_below : (m n : ℕ) → nat_lt m n ≡ is_lt (nat_cmp m n)
number_below m n = grind (arith, nat_tests)

pub pair_below : (a b : ℕ × ℕ) → pair_lt a b ≡ is_lt (pair_cmp a b)
pair_below a b = grind (arith, nat_tests)

pub int_below : (i j : ℤ) → int_lt i j ≡ true → int_cmp i j ≡ Less
int_below i j h = grind (arith, ints)

-- ---- what the types of the columns say of a row

no_longer : (key : Option ℕ) (at : ℕ) (columns : List Column) (values : Row) → are_typed key at columns values ≡ true → length values ≤ length columns
no_longer key at [] [] h = omega arith
no_longer key at [] (v ∷ vs) h = absurd cc
no_longer key at (c ∷ cs) [] h = omega arith
no_longer key at (c ∷ cs) (v ∷ vs) h = let more = no_longer key (at + 1) cs vs (second_of_both _ _ h) in omega (arith, more)

pub short_row : (key : Option ℕ) (columns : List Column) (r : Row) → are_typed key 0 columns (drop 1 r) ≡ true → length r ≤ 1 + length columns
short_row key columns [] h = omega arith
short_row key columns (v ∷ r) h = let more = no_longer key 0 columns r h in omega (arith, more)

null_if : (v : Value) → is_null v ≡ true → v ≡ Null
null_if Null h = refl
null_if (Int n) h = absurd cc
null_if (Real x) h = absurd cc
null_if (Text t) h = absurd cc
null_if (Blob b) h = absurd cc

-- the column of an integer key is empty
pub key_empty : (columns : List Column) (r : Row) → are_typed (Some 0) 0 columns (drop 1 r) ≡ true → column r 1 ≡ Null
key_empty columns [] h = refl
key_empty columns (v ∷ []) h = refl
key_empty [] (v ∷ w ∷ r) h = absurd cc
key_empty (first ∷ columns) (v ∷ w ∷ r) h = null_if w (first_of_both _ _ h)

-- ---- a table whose key is a number

apart_below : {X : Type 0} (k : ℕ) (es : List (ℕ × X)) → T (below_all nat_cmp k es) → AllByRecursion (λ (j : ℤ). pos k ≢ j) (map (λ e. pos e.0) es)
apart_below k [] h = tt
apart_below k (e ∷ es) h = let two = and_yes _ _ h in ((λ same. unequal k e.0 two.0 (ap natural same)), apart_below k es two.1)
  where
    unequal : (m n : ℕ) → T (is_lt (nat_cmp m n)) → m ≡ n → ⊥
    unequal m n less same = grind (arith, nat_tests)

apart_keys : {X : Type 0} (es : List (ℕ × X)) → T (is_sorted nat_cmp es) → AllApart (map (λ e. pos e.0) es)
apart_keys [] h = tt
apart_keys (e ∷ es) h = let two = and_yes _ _ h in (apart_below e.0 es two.0, apart_keys es two.1)

module _ {X : Type 0} (columns : X → Row) (uncolumns : Row → X) (back : (x : X) → uncolumns (columns x) ≡ x) (terms : List Term) (first : (r : Row) → column (shown_by terms r) 0 ≡ column r 0)
    (tree : List Row) (es : List (ℕ × X)) where
  abbrev pub keyed_shown : ℕ × X → Row
  keyed_shown e = Int (pos e.0) ∷ columns e.1

  abbrev unshown : Row → ℕ × X
  unshown r = (number_in (column r 0), uncolumns (drop 1 r))

  abbrev id : Row → ℤ
  id r = int_in (column r 0)

  back_entry : (e : ℕ × X) → unshown (keyed_shown e) ≡ e
  back_entry e = ap (λ x. (e.0, x)) (back e.1)

  module _ (same : IsPermutation (map (shown_by terms) tree) (map keyed_shown es)) where
    apart : T (is_sorted nat_cmp es) → AllApart (map id tree)
    apart sorted =
        let ids = IsPermutation-map id _ _ same in
        let left : map id (map (shown_by terms) tree) ≡ map id tree = map-map id (shown_by terms) tree ∙ map_same _ _ (λ r. ap int_in (first r)) tree in
        subst AllApart left (apart_permuted _ _ (IsPermutation-sym _ _ ids) (subst AllApart (sym (map-map id keyed_shown es)) (apart_keys es sorted)))

    keys_are : (rs : List Row) → AllByRecursion (λ r. (e : ℕ × X) × (shown_by terms r ≡ keyed_shown e)) rs → AllByRecursion (λ (p : ℤ × (ℕ × X)). p.0 ≡ pos p.1.0) (map (λ r. (id r, unshown (shown_by terms r))) rs)
    keys_are [] shows = tt
    keys_are (r ∷ rs) shows =
        let e = shows.0.0 in
        let here : id r ≡ pos e.0 = ap int_in (sym (first r) ∙ ap (λ xs. column xs 0) shows.0.1) in
        let value : unshown (shown_by terms r) ≡ e = ap unshown shows.0.1 ∙ back_entry e in
        (here ∙ ap (λ (x : ℕ × X). pos x.0) (sym value), keys_are rs shows.1)

    stands : (rs : List Row) → AllByRecursion (λ r. (e : ℕ × X) → shown_by terms r ≡ keyed_shown e → ReadAlike r (row_of columns (pos e.0, e))) rs
        → AllByRecursion (λ r. (e : ℕ × X) → shown_by terms r ≡ keyed_shown e → ReadAlike r (row_of columns (id r, e))) rs
    stands [] h = tt
    stands (r ∷ rs) h = (
      λ e is. subst (λ i. ReadAlike r (row_of columns (i, e))) (sym (ap int_in (sym (first r) ∙ ap (λ xs. column xs 0) is))) (h.0 e is),
      stands rs h.1,
    )

    pub holds_keyed : AllByRecursion (λ r. (e : ℕ × X) → shown_by terms r ≡ keyed_shown e → ReadAlike r (row_of columns (pos e.0, e))) tree → T (is_sorted nat_cmp es) → HoldsMap columns tree (from_sorted es)
    holds_keyed alike sorted = record {
      table = holds_table (row_of columns) keyed_shown unshown back_entry (shown_by terms) id tree es same nat_cmp (stands tree alike) (apart sorted) sorted;
      keyed = keys_are tree (each_shown (row_of columns) keyed_shown unshown back_entry (shown_by terms) id tree es same);
    }

-- ---- a table whose key is a pair of numbers, under rowids that were read too

apart_above : (i : ℤ) (rest : List ℤ) → AllByRecursion (λ j. int_cmp i j ≡ Less) rest → AllByRecursion (λ j. i ≢ j) rest
apart_above i [] h = tt
apart_above i (j ∷ js) h = ((λ same. unequal i j h.0 same), apart_above i js h.1)
  where
    unequal : (m n : ℤ) → int_cmp m n ≡ Less → m ≡ n → ⊥
    unequal m n less same = let itself : int_cmp m m ≡ Less = subst (λ k. int_cmp m k ≡ Less) (sym same) less in absurd (let e = sym (tied_itself int_cmp_total m) ∙ itself in cc)

module _ {A : Type 0} (number : A → ℤ) where
  low : (i : ℤ) (a : A) (rest : List A) → int_cmp i (number a) ≡ Less → rises (λ a b. int_lt (number a) (number b)) (a ∷ rest) ≡ true → AllByRecursion (λ j. int_cmp i j ≡ Less) (map number (a ∷ rest))
  low i a [] below up = (below, tt)
  low i a (b ∷ rest) below up =
      let here : int_cmp (number a) (number b) ≡ Less = int_below (number a) (number b) (first_of_both _ _ up) in
      (below, low i b rest (int_cmp_total.trans i (number a) (number b) below here) (second_of_both _ _ up))

  pub apart_if_rises : (list : List A) → rises (λ a b. int_lt (number a) (number b)) list ≡ true → AllApart (map number list)
  apart_if_rises [] up = tt
  apart_if_rises (a ∷ []) up = (tt, tt)
  apart_if_rises (a ∷ b ∷ rest) up =
      (apart_above (number a) (map number (b ∷ rest)) (low (number a) b rest (int_below (number a) (number b) (first_of_both _ _ up)) (second_of_both _ _ up)), apart_if_rises (b ∷ rest) (second_of_both _ _ up))

module _ {X : Type 0} (columns : X → Row) (uncolumns : Row → X) (back : (x : X) → uncolumns (columns x) ≡ x) (terms : List Term) (tree : List Row) (es : List ((ℕ × ℕ) × X))
    (ids : List ℤ) where
  abbrev pub pair_shown : (ℕ × ℕ) × X → Row
  pair_shown e = Int (pos e.0.0) ∷ Int (pos e.0.1) ∷ columns e.1

  abbrev pair_unshown : Row → (ℕ × ℕ) × X
  pair_unshown r = ((number_in (column r 0), number_in (column r 1)), uncolumns (drop 2 r))

  abbrev number_of : Row → ℤ
  number_of r = int_in (column r 0)

  back_pair : (e : (ℕ × ℕ) × X) → pair_unshown (pair_shown e) ≡ e
  back_pair e = ap (λ x. (e.0, x)) (back e.1)

  numbers_are : (js : List ℤ) → AllByRecursion (λ r. (j : ℤ) × (r ≡ Int j ∷ [])) (map (λ j. Int j ∷ []) js)
  numbers_are [] = tt
  numbers_are (j ∷ js) = ((j, refl), numbers_are js)

  module _ (same : IsPermutation (map (shown_by terms) tree) (map pair_shown es)) (numbers : IsPermutation (map (λ r. column r 0 ∷ []) tree) (map (λ j. Int j ∷ []) ids)) where
    pair_apart : AllApart ids → AllApart (map number_of tree)
    pair_apart rising =
        let here = IsPermutation-map number_of _ _ numbers in
        let left : map number_of (map (λ r. column r 0 ∷ []) tree) ≡ map number_of tree = map-map number_of (λ r. column r 0 ∷ []) tree in
        let right : map number_of (map (λ j. Int j ∷ []) ids) ≡ ids = map_back (λ j. Int j ∷ []) number_of (λ _. refl) ids in
        subst AllApart left (apart_permuted _ _ (IsPermutation-sym _ _ here) (subst AllApart (sym right) rising))

    numbered_rows : AllByRecursion (λ r. column r 0 ≡ Int (number_of r)) tree
    numbered_rows = each tree (all_unmap (λ r. (j : ℤ) × (r ≡ Int j ∷ [])) (λ r. column r 0 ∷ []) tree (alls _ _ _ (IsPermutation-sym _ _ numbers) (numbers_are ids)))
      where
        each : (rs : List Row) → AllByRecursion (λ r. (j : ℤ) × (column r 0 ∷ [] ≡ Int j ∷ [])) rs → AllByRecursion (λ r. column r 0 ≡ Int (int_in (column r 0))) rs
        each [] h = tt
        each (r ∷ rs) h = (let is : column r 0 ≡ Int h.0.0 = ap (λ xs. column xs 0) h.0.1 in is ∙ ap Int (sym (ap int_in is)), each rs h.1)

    pair_stands : (rs : List Row) → AllByRecursion (λ r. column r 0 ≡ Int (number_of r)) rs → AllByRecursion (λ r. (i : ℤ) (e : (ℕ × ℕ) × X) → column r 0 ≡ Int i → shown_by terms r ≡ pair_shown e → ReadAlike r (stored columns (i, e))) rs
        → AllByRecursion (λ r. (e : (ℕ × ℕ) × X) → shown_by terms r ≡ pair_shown e → ReadAlike r (stored columns (number_of r, e))) rs
    pair_stands [] n h = tt
    pair_stands (r ∷ rs) n h = ((λ e is. h.0 (number_of r) e n.0 is), pair_stands rs n.1 h.1)

    pub holds_pairs : AllByRecursion (λ r. (i : ℤ) (e : (ℕ × ℕ) × X) → column r 0 ≡ Int i → shown_by terms r ≡ pair_shown e → ReadAlike r (stored columns (i, e))) tree → AllApart ids → T (is_sorted pair_cmp es)
        → HoldsPairs columns tree (from_sorted es)
    holds_pairs alike rising sorted = holds_table (stored columns) pair_shown pair_unshown back_pair (shown_by terms) number_of tree es same pair_cmp (pair_stands tree numbered_rows alike) (pair_apart rising) sorted
