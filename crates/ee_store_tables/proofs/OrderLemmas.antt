-- What a query shows in order.
use Rattle.std.proofs.Common.{◌≡◌, ℕ, List, [], ◌∷◌, ◌++◌, map, filter, Bool, sym, ap, subst, ◌∙◌, Ordering, Less}
use Rattle.std.specs.Prelude.{flat_map, T, IsPermutation}
use Rattle.std.specs.List.{list_all, AllByRecursion}
use Rattle.std.specs.FinMap.Entries.{below_all, is_sorted}
use Rattle.std.proofs.lemmas.List.Sorted.{IsPermutation-refl, IsPermutation-sym, IsPermutation-trans, IsPermutation-cons, IsPermutation-map, IsPermutation-append_comm}
use Rattle.std.proofs.Math.Facts.{and_yes}
use Rattle.sqlite.specs.Order.{Row}
use Rattle.sqlite.specs.Term.{Term}
use Rattle.sqlite_sql.specs.Term.{holds}
use Rattle.sqlite_value.specs.declared.keys.Key.{Key}
use Rattle.sqlite.specs.Query.{Query, IsAnswer, Output, output, output_cmp, page}
use Rattle.sqlite.specs.Program.{overlay}
use Rattle.sqlite.specs.Tree.{Trees, IsAscending}
use Rattle.sqlite_sql.proofs.QueryLemmas.{output_cmp_total}
use Rattle.sqlite_keyed.proofs.ListLemmas.{map-map, filter-map, IsPermutation-filter, ascending-map, ascending-append, all_both, all_weaker, all-append}
use Rattle.sqlite_keyed.proofs.SortLemmas.{sorted_unique}
use Rattle.ee_store_tables.specs.Keyed.{ReadAlike, AreRows}
use Rattle.ee_store_tables.proofs.Meaning.{ordered_query}
use Rattle.ee_store_tables.proofs.PairLemmas.{is_less}
use Rattle.ee_store_tables.proofs.SelectLemmas.{matched}

-- the entries of a map rise
pub keys_rise : {K X : Type 0} (R : K → K → Ordering) (es : List (K × X)) → T (is_sorted R es) → IsAscending (λ e f. R e.0 f.0 ≡ Less) es
keys_rise R [] h = tt
keys_rise {K} {X} R (e ∷ es) h = let two = and_yes _ _ h in (all_above es two.0, keys_rise R es two.1)
  where
    all_above : (fs : List (K × X)) → T (below_all R e.0 fs) → AllByRecursion (λ f. R e.0 f.0 ≡ Less) fs
    all_above [] b = tt
    all_above (f ∷ fs) b = let two = and_yes _ _ b in (is_less _ two.0, all_above fs two.1)

-- what rises one way rises another, among those that pass a test
pub rise_among : {A : Type 0} (P : A → Type 0) (R S : A → A → Type 0) → ((a b : A) → P a → P b → R a b → S a b) → (xs : List A) → AllByRecursion P xs → IsAscending R xs → IsAscending S xs
rise_among P R S f [] all up = tt
rise_among P R S f (x ∷ xs) all up = (all_both P (R x) (S x) (λ b q r. f x b all.0 q r) xs all.1 up.0, rise_among P R S f xs all.1 up.1)

module _ {A B : Type 0} (row : A → Row) (key : A → B) (tree : ℕ) (terms project : List Term) (order : List (Term × Key)) (limit : Term) (params : Row) (test : B → Bool) (out : B → Output)
    (agrees : (r : Row) (a : A) → ReadAlike r (row a) → list_all (holds (params ∷ r ∷ [])) terms ≡ test (key a))
    (shows : (r : Row) (a : A) → ReadAlike r (row a) → output (ordered_query tree terms project order limit) (params ∷ r ∷ []) ≡ out (key a)) where
  abbrev query : Query
  query = ordered_query tree terms project order limit

  -- exactly the rows that pass the test, in order
  pub in_order : (db : Trees) (found : List Row) (xs : List A) (expected : List B) → overlay db [] tree ≡ db tree → AreRows row (db tree) xs → IsPermutation (map key xs) expected
      → IsAscending (λ a b. output_cmp query (out a) (out b) ≡ Less) (filter test expected) → IsAnswer query (overlay db []) params found
      → found ≡ page query params (map (λ (o : Output). o.1) (map out (filter test expected)))
  in_order db found xs expected read are same up a = a.shown ∙ ap (λ os. page query params (map (λ (o : Output). o.1) os)) ordered
    where
      kept : a.kept ≡ map out (filter test (map key xs))
      kept = a.distinct ∙ ap (map (output query)) (a.grouped ∙ ap (flat_map _) read)
          ∙ matched row params terms (λ a. test (key a)) (output query) (λ a. out (key a)) agrees shows (db tree) xs are
          ∙ sym (map-map out key (filter (λ a. test (key a)) xs)) ∙ ap (map out) (sym (filter-map test key xs))

      permuted : IsPermutation (map out (filter test expected)) a.ordered
      permuted = IsPermutation-trans _ _ _ (IsPermutation-map out _ _ (IsPermutation-filter test _ _ (IsPermutation-sym _ _ same))) (subst (λ os. IsPermutation os a.ordered) kept a.same)

      ordered : a.ordered ≡ map out (filter test expected)
      ordered = sorted_unique (output_cmp query) (output_cmp_total query) _ a.ordered (ascending-map (λ a b. output_cmp query a b ≡ Less) out _ up) permuted a.sorted

-- ---- the other way round

abbrev pub backward : {A : Type 0} → List A → List A
backward [] = []
backward (x ∷ xs) = backward xs ++ x ∷ []

pub backward_permutes : {A : Type 0} (xs : List A) → IsPermutation xs (backward xs)
backward_permutes [] = IsPermutation-refl []
backward_permutes (x ∷ xs) = IsPermutation-trans _ _ _ (IsPermutation-cons x _ _ (backward_permutes xs)) (IsPermutation-append_comm (x ∷ []) (backward xs))

all_backward : {A : Type 0} (P : A → Type 0) (xs : List A) → AllByRecursion P xs → AllByRecursion P (backward xs)
all_backward P [] all = tt
all_backward P (x ∷ xs) all = all-append P (backward xs) (x ∷ []) (all_backward P xs all.1) (all.0, tt)

pub backward_rises : {A : Type 0} (R : A → A → Type 0) (xs : List A) → IsAscending R xs → IsAscending (λ a b. R b a) (backward xs)
backward_rises R [] up = tt
backward_rises R (x ∷ xs) up = ascending-append _ (backward xs) (x ∷ []) (backward_rises R xs up.1) (tt, tt) (all_weaker (R x) (λ b. AllByRecursion (λ a. R a b) (x ∷ [])) (λ b r. (r, tt)) (backward xs) (all_backward (R x) xs up.0))
