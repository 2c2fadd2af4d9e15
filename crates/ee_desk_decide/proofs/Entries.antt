-- What holds wherever a key is found in a map holds of each of its entries.
use Rattle.std.proofs.Common.{◌≡◌, Bool, true, false, cond, List, [], ◌∷◌, Option, Some, None, refl, sym, ap, ◌∙◌, subst}
use Rattle.std.specs.Prelude.{T}
use Rattle.std.specs.Option.{IfSome}
use Rattle.std.specs.List.{AllByRecursion}
use Rattle.std.specs.FinMap as finite
use Rattle.std.specs.FinMap.{FinMap, find, get-entries, entries_sorted}
use Rattle.std.specs.FinMap.Entries.{is_sorted, below_all}
use Rattle.std.specs.Ordering.{is_lt, is_eq, eq_by_cmp}
use Rattle.std.specs.Cmp.{IsTotalOrder, eq_by_cmp_equiv}
use Rattle.std.specs.declared.cmp.Ordering.{Ordering}
use Rattle.std.specs.declared.cmp.Ordering.TheVariants.{Less, Equal, Greater}
use Rattle.std.proofs.lemmas.Map.Lookups.{CmpEqualImpliesEq}
use Rattle.std.proofs.lemmas.Map.Views.{tells_apart}
use Rattle.std.proofs.Math.Facts.{and_yes}

apart : (r : Ordering) → T (is_lt r) → is_eq r ≡ false
apart Less h = refl
apart Equal h = absurd h
apart Greater h = absurd h

pub none_below : {K V : Type 0} (R : K → K → Ordering) (q : K) (es : List (K × V)) → T (below_all R q es) → find R q es ≡ None
none_below R q [] h = refl
none_below R q (e ∷ es) h = ap (λ b. cond b (Some e.1) (find R q es)) (apart (R q e.0) (and_yes _ _ h).0) ∙ none_below R q es (and_yes _ _ h).1

module _ {K V : Type 0} {R : K → K → Ordering} (o : IsTotalOrder R) (exact : CmpEqualImpliesEq R) (P : K → V → Type 0) where
  past : (e : K × V) (es : List (K × V)) (q : K) → T (below_all R e.0 es) → (b : Bool) → eq_by_cmp R q e.0 ≡ b
      → IfSome (cond b (Some e.1) (find R q es)) (P q) → IfSome (find R q es) (P q)
  past e es q h true is p =
      let none = subst (λ k. find R k es ≡ None) (sym (tells_apart exact q e.0 is)) (none_below R e.0 es h) in
      subst (λ (v : Option V). IfSome v (P q)) (sym none) tt
  past e es q h false is p = p

  pub all_sorted : (es : List (K × V)) → T (is_sorted R es) → ((q : K) → IfSome (find R q es) (P q)) → AllByRecursion (λ e. P e.0 e.1) es
  all_sorted [] s h = tt
  all_sorted (e ∷ es) s h = (
    subst (λ b. IfSome (cond b (Some e.1) (find R e.0 es)) (P e.0)) ((eq_by_cmp_equiv o).refl e.0) (h e.0),
    all_sorted es (and_yes _ _ s).1 (λ q. past e es q (and_yes _ _ s).0 (eq_by_cmp R q e.0) refl (h q)),
  )

  pub all_entries : (m : FinMap R V) → ((q : K) → IfSome (finite.get m q) (P q)) → AllByRecursion (λ e. P e.0 e.1) (finite.entries m)
  all_entries m h = all_sorted (finite.entries m) (entries_sorted m) (λ q. subst (λ v. IfSome v (P q)) (get-entries m q) (h q))
