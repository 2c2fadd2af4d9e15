-- An insertion that succeeded found no row of its key.
use Rattle.std.proofs.Common.{◌≡◌, inl, inr, ℕ, ℤ, List, [], ◌∷◌, Bool, true, false, Some, None, Option, refl, sym, ap, ◌∙◌, Less, Equal, Greater}
use Rattle.std.specs.Prelude.{◌&&◌, ◌||◌}
use Rattle.std.specs.List.{list_any, AllByRecursion}
use Rattle.std.specs.Ordering.{match_ordering, int_eq}
use Rattle.std.specs.Cmp.{tied_itself}
use Rattle.std.proofs.lemmas.Cmp.{nat_cmp_total}
use Rattle.std.proofs.lemmas.Bool.{cases_Bool}
use Rattle.std.proofs.lemmas.List.Sorted.{list_any-IsPermutation}
use Rattle.std.specs.FinMap.{FinMap, get}
use Rattle.std.proofs.Math.Bool.{or-true}
use Rattle.sqlite.specs.Order.{Row, value_cmp}
use Rattle.sqlite_value.specs.Keys.{plain, first_key}
use Rattle.sqlite.specs.Ops.{binary}
use Rattle.sqlite_schema.specs.Rules.{agree, clashes, differ}
use Rattle.sqlite_rules.specs.Edit.{is_taken}
use Rattle.sqlite.specs.Tree.{put_row, rowid}
use Rattle.ee_store_tables.specs.Keyed.{pair_cmp, stored, ReadAlike, HoldsPairs}
use Rattle.ee_store_tables.proofs.PairLemmas.{alike_itself, any_alike, new_number, put_numbered, with_is_more}
use Rattle.ee_store_tables.proofs.HoldsLemmas.{pair_total, pair_same, has_key, hit_row, any_hit}
use Rattle.ee_store_tables.proofs.SelectLemmas.{equals_holds, differs}

module _ {X : Type 0} (columns : X → Row) (k : ℕ × ℕ) (x : X) (rows : List Row) (m : FinMap pair_cmp X) (h : HoldsPairs columns rows m) (id : ℤ) where
  abbrev pub row : Row
  row = stored columns (id, (k, x))

  -- another row has the two columns of the key
  abbrev clash : Row → Bool
  clash r = agree plain (1 ∷ 2 ∷ []) r (1 ∷ 2 ∷ []) row && differ (rowid r) (rowid row)

  clash_alike : (r : Row) (p : ℤ × ((ℕ × ℕ) × X)) → ReadAlike r (stored columns p) → clash r ≡ clash (stored columns p)
  clash_alike r p one = rw (one 0, one 1, one 2) refl

  -- no other row has the two columns of the key
  pub was_new : is_taken rows row ≡ false → clashes plain (1 ∷ 2 ∷ []) (put_row row rows) row ≡ false → get m k ≡ None
  unfolding binary first_key
  was_new fresh apart = go (get m k) refl
    where
      go : (o : Option X) → get m k ≡ o → o ≡ None
      go None is = refl
      go (Some old) is =
          let one = hit_row pair_total pair_same (stored columns) (λ _. refl) k rows m h old is in
          let p : ℤ × ((ℕ × ℕ) × X) = (id, (k, x)) in
          let free = new_number (stored columns) (λ _. refl) row p (alike_itself row) rows h.numbered h.are fresh in
          let there = λ (q : ℤ × ((ℕ × ℕ) × X) → Bool). any_hit (has_key pair_total pair_same (stored columns) (λ _. refl) k rows m h) q (one.0, (k, old)) h.numbered one.1 in
          let other : int_eq one.0 id ≡ false = elim (cases_Bool (int_eq one.0 id)) [
            | inl hit ↦ absurd (let a = sym (there (λ q. int_eq q.0 id) hit) ∙ free in cc)
            | inr miss ↦ miss
          ] in
          let here : clash (stored columns (one.0, (k, old))) ≡ true = rw (equals_holds k.0 k.0, equals_holds k.1 k.1, differs one.0 id other, tied_itself nat_cmp_total k.0, tied_itself nat_cmp_total k.1) refl in
          let found : list_any clash (put_row row rows) ≡ true =
          any_alike (stored columns) clash (λ q. clash (stored columns q)) clash_alike (put_row row rows) _ (put_numbered (stored columns) (λ _. refl) row p (alike_itself row) rows h.numbered h.are)
          ∙ sym (list_any-IsPermutation (λ q. clash (stored columns q)) (p ∷ h.numbered) _ (with_is_more p h.numbered free))
          ∙ ap (λ b. clash row || b) (there (λ q. clash (stored columns q)) here) ∙ or-true (clash row) in
          absurd (let a = sym found ∙ apart in cc)

pub all_put : (P : Row → Type 0) (new : Row) (rows : List Row) → AllByRecursion P (put_row new rows) → P new
all_put P new [] h = h.0
all_put P new (r ∷ rs) h =
    elim (value_cmp (rowid r) (rowid new)) as (λ o. AllByRecursion P (match_ordering o (r ∷ put_row new rs) (new ∷ rs) (new ∷ r ∷ rs)) → P new) [
      | Less ↦ λ a. all_put P new rs a.1
      | Equal ↦ λ a. a.0
      | Greater ↦ λ a. a.0
    ] h
