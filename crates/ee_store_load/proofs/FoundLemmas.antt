-- From the rows that were read to the map that the table holds.
use Rattle.std.proofs.Common.{◌≡◌, ◌≢◌, ℕ, zero, suc, ℤ, List, [], ◌∷◌, map, length, Bool, true, false, refl, sym, ap, subst, subst₂, ◌∙◌, arith, Ordering, Less, Equal, Greater, T}
use Rattle.std.specs.Prelude.{⊤, IsPermutation, ◌&&◌, ◌+◌, ◌≤◌}
use Rattle.std.specs.List.{AllByRecursion}
use Rattle.std.specs.Ordering.{is_lt}
use Rattle.std.specs.Cmp.{IsTotalOrder}
use Rattle.std.specs.FinMap.{from_sorted, entries-from_sorted}
use Rattle.std.specs.FinMap.Entries.{is_sorted, below_all}
use Rattle.std.proofs.lemmas.List.Sorted.{IsPermutation-refl, IsPermutation-sym, IsPermutation-trans, IsPermutation-map, IsPermutation-cons, All-permutation}
use Rattle.std.proofs.lemmas.List.Elements.{All-from_recursion, recursion_from_All}
use Rattle.std.proofs.lemmas.Bool.{and_parts}
use Rattle.std.proofs.Math.Facts.{yes_and}
use Rattle.sqlite.specs.declared.types.Value.TheVariants.{Null}
use Rattle.sqlite_value.specs.Order.{Row, column}
use Rattle.sqlite_trees.specs.Tree.{IsAscending}
use Rattle.sqlite_keyed.proofs.ListLemmas.{along_permutation, all_unmap, all_map, map_back, map-map}
use Rattle.ee_store_tables.proofs.Lemmas.Rows.{first_two_exchanged}
use Rattle.ee_store_load.specs.Reading.{rises}
use Rattle.ee_store_tables.specs.Keyed.{ReadAlike, AreRows, AreApart, HoldsTable}

-- ---- lists in order

join : (a b : Bool) → a ≡ true → T b → T (a && b)
join true b e h = h
join false b e h = absurd cc

less : (o : Ordering) → is_lt o ≡ true → o ≡ Less
less Less h = refl
less Equal h = absurd cc
less Greater h = absurd cc

module _ {A K X : Type 0} (R : K → K → Ordering) (total : IsTotalOrder R) (entry : A → K × X) where
  abbrev precedes : A → A → Bool
  precedes a b = is_lt (R (entry a).0 (entry b).0)

  above : (k : K) (a : A) (rest : List A) → R k (entry a).0 ≡ Less → rises precedes (a ∷ rest) ≡ true → T (below_all R k (map entry (a ∷ rest)))
  above k a [] low up = join _ true (ap is_lt low) tt
  above k a (b ∷ rest) low up =
      let two = and_parts _ _ up in
      join _ _ (ap is_lt low) (above k b rest (total.trans k (entry a).0 (entry b).0 low (less _ two.0)) two.1)

  -- if each comes before the next, each comes before all later ones
  pub sorted_if_rises : (list : List A) → rises precedes list ≡ true → T (is_sorted R (map entry list))
  sorted_if_rises [] up = tt
  sorted_if_rises (a ∷ []) up = tt
  sorted_if_rises (a ∷ b ∷ rest) up = let two = and_parts _ _ up in yes_and _ _ (above (entry a).0 b rest (less _ two.0) two.1) (sorted_if_rises (b ∷ rest) two.1)

-- ---- things that are all different

abbrev pub AllApart : {X : Type 0} → List X → Type 0
AllApart = IsAscending (λ x y. x ≢ y)

pub alls : {X : Type 0} (P : X → Type 0) (xs ys : List X) → IsPermutation xs ys → AllByRecursion P xs → AllByRecursion P ys
alls P xs ys same all = recursion_from_All P ys (All-permutation P xs ys same (All-from_recursion P xs all))

module _ {X : Type 0} where
  abbrev StayApart : List X → List X → Type 0
  StayApart xs ys = IsPermutation xs ys × (AllApart xs → AllApart ys)

  skip : (x : X) (xs ys : List X) → StayApart xs ys → StayApart (x ∷ xs) (x ∷ ys)
  skip x xs ys h = (IsPermutation-cons x _ _ h.0, λ apart. (alls (λ y. x ≢ y) xs ys h.0 apart.0, h.1 apart.1))

  turn : (x y : X) (xs : List X) → StayApart (x ∷ y ∷ xs) (y ∷ x ∷ xs)
  turn x y xs = (first_two_exchanged x y xs, λ apart. (((λ e. apart.0.0 (sym e)), apart.1.0), (apart.0.1, apart.1.1)))

  -- in whatever order
  pub apart_permuted : (xs ys : List X) → IsPermutation xs ys → AllApart xs → AllApart ys
  apart_permuted xs ys same = (along_permutation StayApart (λ zs. (IsPermutation-refl zs, λ h. h)) skip turn (λ us vs ws h k. (IsPermutation-trans _ _ _ h.0 k.0, λ apart. k.1 (h.1 apart))) xs ys same).1

-- ---- rows that read as others

no_more : (r : Row) (k : ℕ) → length r ≤ k → column r k ≡ Null
no_more [] k h = refl
no_more (v ∷ r) zero h = absurd (omega (arith, h))
no_more (v ∷ r) (suc k) h = no_more r k (omega (arith, h))

-- the columns of the first row, from one on, are those of the second
abbrev pub HasColumns : Row → ℕ → Row → Type 0
HasColumns r k [] = ⊤
HasColumns r k (v ∷ vs) = (column r k ≡ v) × HasColumns r (suc k) vs

reads_from : (r t : Row) (k : ℕ) → HasColumns r k t → length r ≤ k + length t → (at : ℕ) → column r (k + at) ≡ column t at
reads_from r [] k h short at = no_more r (k + at) (omega (arith, short))
reads_from r (v ∷ t) k h short zero = let same : k + 0 ≡ k = omega arith in ap (column r) same ∙ h.0
reads_from r (v ∷ t) k h short (suc at) = let same : k + suc at ≡ suc k + at = omega arith in ap (column r) same ∙ reads_from r t (suc k) h.1 (omega (arith, short)) at

pub reads_alike : (r t : Row) → HasColumns r 0 t → length r ≤ length t → ReadAlike r t
reads_alike r t h short at = let same : 0 + at ≡ at = omega arith in ap (column r) (sym same) ∙ reads_from r t 0 h (omega (arith, short)) at

-- ---- a table

module _ {K X : Type 0} (row : ℤ × (K × X) → Row) (shown : K × X → Row) (unshown : Row → K × X) (back : (e : K × X) → unshown (shown e) ≡ e)
    (project : Row → Row) (id : Row → ℤ) (tree : List Row) (es : List (K × X)) (same : IsPermutation (map project tree) (map shown es)) where
  abbrev IsShown : Row → Type 0
  IsShown r = (e : K × X) × (project r ≡ shown e)

  all_are : (xs : List (K × X)) → AllByRecursion (λ r. (e : K × X) × (r ≡ shown e)) (map shown xs)
  all_are [] = tt
  all_are (x ∷ xs) = ((x, refl), all_are xs)

  pub each_shown : AllByRecursion IsShown tree
  each_shown = all_unmap (λ r. (e : K × X) × (r ≡ shown e)) project tree (alls _ (map shown es) (map project tree) (IsPermutation-sym _ _ same) (all_are es))

  abbrev pub numbered : List (ℤ × (K × X))
  numbered = map (λ r. (id r, unshown (project r))) tree

  abbrev pub StandsAs : Row → Type 0
  StandsAs r = (e : K × X) → project r ≡ shown e → ReadAlike r (row (id r, e))

  pub are_rows : (rs : List Row) → AllByRecursion IsShown rs → AllByRecursion StandsAs rs → AreRows row rs (map (λ r. (id r, unshown (project r))) rs)
  are_rows [] shows stands = tt
  are_rows (r ∷ rs) shows stands =
      let e = shows.0.0 in
      let value : unshown (project r) ≡ e = ap unshown shows.0.1 ∙ back e in
      (subst (λ x. ReadAlike r (row (id r, x))) (sym value) (stands.0 e shows.0.1), are_rows rs shows.1 stands.1)

  pub apart_by : (rs : List Row) → AllApart (map id rs) → AreApart (map (λ r. (id r, unshown (project r))) rs)
  apart_by [] h = tt
  apart_by (r ∷ rs) h = (all_map (λ p. id r ≢ p.0) (λ s. (id s, unshown (project s))) rs (all_unmap (λ j. id r ≢ j) id rs h.0), apart_by rs h.1)

  pub are_entries : IsPermutation (map (λ (p : ℤ × (K × X)). p.1) numbered) es
  are_entries = subst₂ IsPermutation (map-map unshown project tree ∙ sym (map-map (λ (p : ℤ × (K × X)). p.1) (λ r. (id r, unshown (project r))) tree)) (map_back shown unshown back es) (IsPermutation-map unshown _ _ same)

  abbrev pub holds_table : (R : K → K → Ordering) → AllByRecursion StandsAs tree → AllApart (map id tree) → T (is_sorted R es) → HoldsTable {R = R} row tree (from_sorted es)
  holds_table R stands apart sorted = record {
    numbered = numbered;
    are = are_rows tree each_shown stands;
    apart = apart_by tree apart;
    same = subst (IsPermutation (map (λ (p : ℤ × (K × X)). p.1) numbered)) (sym (entries-from_sorted R es sorted)) are_entries;
  }
