-- The entries of the map of rows whose keys rise are the rows; and the entries of each map rise.
use Rattle.std.proofs.Common.{◌≡◌, ℕ, ◌<◌, ◌==◌, Bool, true, false, cond, nat_lt, List, [], ◌∷◌, map, Option, Some, refl, sym, ap, ◌∙◌, subst}
use Rattle.std.specs.Prelude.{T}
use Rattle.std.specs.Option.{IfSome}
use Rattle.std.specs.List.{AllByRecursion}
use Rattle.std.specs.FinMap as finite
use Rattle.std.specs.FinMap.{FinMap, find, get-entries, entries_sorted, get-from_entries, get-from_sorted, entries-from_sorted, same_map}
use Rattle.std.specs.FinMap.Entries.{is_sorted, below_all}
use Rattle.std.specs.Ordering.{nat_cmp, is_lt, eq_by_cmp}
use Rattle.std.specs.Cmp.{IsTotalOrder}
use Rattle.std.specs.declared.cmp.Ordering.{Ordering}
use Rattle.std.specs.declared.cmp.Ordering.TheVariants.{Less, Equal, Greater}
use Rattle.std.proofs.lemmas.Map.Lookups.{CmpEqualImpliesEq}
use Rattle.std.proofs.lemmas.Bool.{ltb-true}
use Rattle.std.proofs.lemmas.Map.Views.{tells_apart}
use Rattle.std.proofs.Math.Facts.{and_yes, yes_and}
use Rattle.ee_desk_decide.proofs.Lemmas.{all_sorted}
use Rattle.ee_desk_soundness.specs.Checks.{InOrder}

lt_is : (r : Ordering) → T (is_lt r) → r ≡ Less
lt_is Less h = refl
lt_is Equal h = absurd h
lt_is Greater h = absurd h

module _ {K V : Type 0} (R : K → K → Ordering) where
  abbrev Sorted : List (K × V) → Type 0
  Sorted es = InOrder (λ a b. R a b ≡ Less) (map (λ e. e.0) es)

  below : (k : K) (es : List (K × V)) → AllByRecursion (λ y. R k y ≡ Less) (map (λ e. e.0) es) → T (below_all R k es)
  below k [] h = tt
  below k (e ∷ es) h = yes_and (is_lt (R k e.0)) (below_all R k es) (subst (λ r. T (is_lt r)) (sym h.0) tt) (below k es h.1)

  is_ordered : (es : List (K × V)) → Sorted es → T (is_sorted R es)
  is_ordered [] h = tt
  is_ordered (e ∷ es) h = yes_and (below_all R e.0 es) (is_sorted R es) (below e.0 es h.0) (is_ordered es h.1)

  above : (k : K) (es : List (K × V)) → T (below_all R k es) → AllByRecursion (λ y. R k y ≡ Less) (map (λ e. e.0) es)
  above k [] h = tt
  above k (e ∷ es) h = (lt_is (R k e.0) (and_yes _ _ h).0, above k es (and_yes _ _ h).1)

  pub ordered_is : (es : List (K × V)) → T (is_sorted R es) → InOrder (λ a b. R a b ≡ Less) (map (λ e. e.0) es)
  ordered_is [] h = tt
  ordered_is (e ∷ es) h = (above e.0 es (and_yes _ _ h).0, ordered_is es (and_yes _ _ h).1)

  -- the entries of a map rise
  pub entries_rise : (m : FinMap R V) → InOrder (λ a b. R a b ≡ Less) (map (λ e. e.0) (finite.entries m))
  entries_rise m = ordered_is (finite.entries m) (entries_sorted m)

  pub entries_are : IsTotalOrder R → CmpEqualImpliesEq R → (es : List (K × V)) → InOrder (λ a b. R a b ≡ Less) (map (λ e. e.0) es) → finite.entries (finite.from_entries {R = R} es) ≡ es
  entries_are o exact es h =
      let s = is_ordered es h in
      ap finite.entries (same_map o exact _ _ (λ q. get-from_entries o es q ∙ sym (get-from_sorted R es q s))) ∙ entries-from_sorted R es s

  pub map_of_entries : IsTotalOrder R → CmpEqualImpliesEq R → (m : FinMap R V) → finite.from_entries (finite.entries m) ≡ m
  map_of_entries o exact m = same_map o exact _ _ (λ q. get-from_entries o (finite.entries m) q ∙ sym (get-entries m q))

-- what holds wherever a key is found holds of each row
module _ {K V : Type 0} {R : K → K → Ordering} (o : IsTotalOrder R) (exact : CmpEqualImpliesEq R) (P : K → V → Type 0) where
  pub all_rows : (es : List (K × V)) → InOrder (λ a b. R a b ≡ Less) (map (λ e. e.0) es) → ((q : K) → IfSome (finite.get (finite.from_entries {R = R} es) q) (P q)) → AllByRecursion (λ e. P e.0 e.1) es
  all_rows es s h = all_sorted o exact P es (is_ordered R es s) (λ q. subst (λ v. IfSome v (P q)) (get-from_entries o es q) (h q))

  found : (e : K × V) (q : K) (rest : Option V) (b : Bool) → eq_by_cmp R q e.0 ≡ b → P e.0 e.1 → IfSome rest (P q) → IfSome (cond b (Some e.1) rest) (P q)
  found e q rest true is p r = subst (λ k. P k e.1) (sym (tells_apart exact q e.0 is)) p
  found e q rest false is p r = r

  find_all : (es : List (K × V)) (q : K) → AllByRecursion (λ e. P e.0 e.1) es → IfSome (find R q es) (P q)
  find_all [] q h = tt
  find_all (e ∷ es) q h = found e q (find R q es) (eq_by_cmp R q e.0) refl h.0 (find_all es q h.1)

  -- what holds of each entry holds of what is found
  pub get_all : (es : List (K × V)) → AllByRecursion (λ e. P e.0 e.1) es → (q : K) → IfSome (finite.get (finite.from_entries {R = R} es) q) (P q)
  get_all es h q = subst (λ v. IfSome v (P q)) (sym (get-from_entries o es q)) (find_all es q h)

cond_less : (a : Bool) (b : Bool) → cond a Less (cond b Equal Greater) ≡ Less → a ≡ true
cond_less true b e = refl
cond_less false true e = absurd (cc)
cond_less false false e = absurd (cc)

pub less_below : (a b : ℕ) → nat_cmp a b ≡ Less → a < b
less_below a b e = ltb-true a b (cond_less (nat_lt a b) (a == b) e)
