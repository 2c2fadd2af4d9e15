-- Maps made of rows whose keys rise: their entries are the rows.
use Rattle.std.proofs.Common.{◌≡◌, ℕ, zero, suc, ◌+◌, ◌<◌, ◌==◌, cond, List, [], ◌∷◌, ◌++◌, map, length, take, get_or, arith, refl, sym, ap, ◌∙◌}
use Rattle.std.specs.List.{AllByRecursion}
use Rattle.std.specs.BTreeMap.{insert_entry}
use Rattle.std.specs.Ordering.{nat_cmp, match_ordering, ordering_reverse}
use Rattle.std.specs.Cmp.{IsTotalOrder, nat_cmp_total}
use Rattle.std.specs.declared.cmp.Ordering.{Ordering}
use Rattle.std.specs.declared.cmp.Ordering.TheVariants.{Less, Equal, Greater}
use Rattle.std.proofs.lemmas.List.{map-append}
use borrow.Author.Tests.{lt-ltb}
use Rattle.ee_value.specs.declared.rates.Rates.{Rates}
use Rattle.ee_value.specs.declared.rates.RateRow.{RateRow}
use Rattle.ee_desk_soundness.specs.Checks.{InOrder, HaveRisingMonths, entry_of_row}
use Rattle.ee_desk_soundness.proofs.Walks.{taken_is}
use Rattle.ee_desk_soundness.proofs.InOrder.{in_order_map}

pub less_is : (a b : ℕ) → a < b → nat_cmp a b ≡ Less
less_is a b h = ap (λ t. cond t Less (cond (a == b) Equal Greater)) (lt-ltb a b h)

module _ {X K V : Type 0} (R : K → K → Ordering) (o : IsTotalOrder R) (key : X → K) (value : X → V) where
  abbrev entry : X → K × V
  entry x = (key x, value x)

  insert_last : (es : List (K × V)) (k : K) (v : V) → AllByRecursion (λ e. R e.0 k ≡ Less) es → insert_entry R es k v ≡ es ++ (k, v) ∷ []
  insert_last [] k v h = refl
  insert_last (e ∷ es) k v h =
      ap (λ r. match_ordering r ((k, v) ∷ e ∷ es) ((e.0, v) ∷ es) (e ∷ insert_entry R es k v)) (o.antisymm k e.0 ∙ ap ordering_reverse h.0)
      ∙ ap (λ l. e ∷ l) (insert_last es k v h.1)

  later_is : (k : K) (xs : List X) (i : ℕ) (x : X) → AllByRecursion (λ l. R k l ≡ Less) (map key xs) → i < length xs → x ≡ get_or xs i x → R k (key x) ≡ Less
  later_is k [] i x all h is = absurd (omega (arith, h))
  later_is k (y ∷ xs) zero x all h is = ap (λ z. R k (key z)) is ∙ all.0
  later_is k (y ∷ xs) (suc i) x all h is = later_is k xs i x all.1 (omega (arith, h)) is

  all_before : (xs : List X) (i : ℕ) (x : X) → InOrder (λ a b. R a b ≡ Less) (map key xs) → i < length xs → x ≡ get_or xs i x
      → AllByRecursion (λ (e : K × V). R e.0 (key x) ≡ Less) (map entry (take i xs))
  all_before xs zero x ordered h is = tt
  all_before [] (suc i) x ordered h is = tt
  all_before (y ∷ xs) (suc i) x ordered h is =
      (later_is (key y) xs i x ordered.0 (omega (arith, h)) is, all_before xs i x ordered.1 (omega (arith, h)) is)

  -- a row whose key is above the earlier ones goes to the end
  pub entries_more : (xs : List X) (i : ℕ) (x : X) (es : List (K × V)) → InOrder (λ a b. R a b ≡ Less) (map key xs) → i < length xs → x ≡ get_or xs i x
      → es ≡ map entry (take i xs) → insert_entry R es (key x) (value x) ≡ map entry (take (i + 1) xs)
  entries_more xs i x es ordered h is e =
      ap (λ fs. insert_entry R fs (key x) (value x)) e
      ∙ insert_last (map entry (take i xs)) (key x) (value x) (all_before xs i x ordered h is)
      ∙ sym (ap (map entry) (taken_is xs i x h is) ∙ map-append entry (take i xs) (x ∷ []))

pub rates_more : (rows : List RateRow) (i : ℕ) (row : RateRow) (es : List (ℕ × Rates)) → HaveRisingMonths rows → i < length rows → row ≡ get_or rows i row
    → es ≡ map entry_of_row (take i rows) → insert_entry nat_cmp es row.from row.rates ≡ map entry_of_row (take (i + 1) rows)
rates_more rows i row es ordered h is e =
    entries_more nat_cmp nat_cmp_total (λ r. r.from) (λ r. r.rates) rows i row es (in_order_map _ _ less_is (map (λ r. r.from) rows) ordered) h is e
