-- What a query of one table shows of the map that the table holds.
use Rattle.std.proofs.Common.{◌≡◌, ℕ, ℤ, pos, List, [], ◌∷◌, map, filter, Some, None, Option, refl, ap, subst, ◌∙◌, nat_cmp}
use Rattle.std.specs.Prelude.{option_map, flat_map, IsPermutation}
use Rattle.std.specs.Option.{option_to_list}
use Rattle.std.specs.List.{list_all, AllByRecursion}
use Rattle.std.specs.FinMap.{FinMap, get, nat_cmp-IsAntisymmetric}
use Rattle.std.proofs.lemmas.Cmp.{nat_cmp_total}
use Rattle.std.proofs.Math.Bool.{and-true}
use Rattle.sqlite.specs.declared.types.Value.TheVariants.{Int}
use Rattle.sqlite.specs.Order.{Row}
use Rattle.sqlite.specs.Term.{Term}
use Rattle.sqlite_sql.specs.Term.{eval_all, holds}
use Rattle.sqlite.specs.Query.{Query, IsAnswer, Output, output, page}
use Rattle.sqlite.specs.Program.{overlay}
use Rattle.sqlite.specs.Tree.{Trees}
use Rattle.ee_store_tables.specs.Keyed.{pair_cmp, row_of, stored, ReadAlike, AreRows, HoldsMap, HoldsPairs}
use Rattle.ee_store_tables.proofs.Meaning.{by_number, by_pair}
use Rattle.ee_store_tables.proofs.PairLemmas.{tied}
use Rattle.ee_store_tables.proofs.HoldsLemmas.{at_most_one, pair_total, pair_same, has_key, entries_hit}
use Rattle.ee_store_tables.proofs.SelectLemmas.{equals_holds, both_equal, matched}

-- rows whose rowids are their keys
pub keyed_rows : {X : Type 0} (columns : X → Row) (rows : List Row) (numbered : List (ℤ × (ℕ × X))) → AllByRecursion (λ p. p.0 ≡ pos p.1.0) numbered → AreRows (row_of columns) rows numbered
    → AreRows (λ e. row_of columns (pos e.0, e)) rows (map (λ p. p.1) numbered)
keyed_rows columns [] [] keyed h = tt
keyed_rows columns [] (p ∷ ps) keyed h = absurd h
keyed_rows columns (r ∷ rows) [] keyed h = absurd h
keyed_rows columns (r ∷ rows) (p ∷ ps) keyed h = (subst (λ i. ReadAlike r (row_of columns (i, p.1))) keyed.0 h.0, keyed_rows columns rows ps keyed.1 h.1)

pub keyed_same : {X : Type 0} (columns : X → Row) (rows : List Row) (numbered : List (ℤ × (ℕ × X))) → AllByRecursion (λ p. p.0 ≡ pos p.1.0) numbered → AreRows (row_of columns) rows numbered
    → AreRows (λ p. row_of columns (pos p.1.0, p.1)) rows numbered
keyed_same columns [] [] keyed h = tt
keyed_same columns [] (p ∷ ps) keyed h = absurd h
keyed_same columns (r ∷ rows) [] keyed h = absurd h
keyed_same columns (r ∷ rows) (p ∷ ps) keyed h = (subst (λ i. ReadAlike r (row_of columns (i, p.1))) keyed.0 h.0, keyed_same columns rows ps keyed.1 h.1)

module _ {X : Type 0} (columns : X → Row) (tree : ℕ) (project : List Term) (n : ℕ) (more : Row) (show : ℕ × X → Row)
    (shows : (r : Row) (e : ℕ × X) → ReadAlike r (row_of columns (pos e.0, e)) → eval_all project ((Int (pos n) ∷ more) ∷ r ∷ []) ≡ show e) where
  number_agrees : (r : Row) (e : ℕ × X) → ReadAlike r (row_of columns (pos e.0, e)) → list_all (holds ((Int (pos n) ∷ more) ∷ r ∷ [])) (by_number tree project).filter ≡ tied nat_cmp nat_cmp_total n e
  number_agrees r e one = rw (one 0, equals_holds e.0 n) (and-true _)

  -- exactly the row of the key, if there is one
  pub found_by_number : (db : Trees) (m : FinMap nat_cmp X) (found : List Row) → overlay db [] tree ≡ db tree → HoldsMap columns (db tree) m → IsAnswer (by_number tree project) (overlay db []) (Int (pos n) ∷ more) found
      → found ≡ option_to_list (option_map (λ x. show (n, x)) (get m n))
  found_by_number db m found read h a = a.shown ∙ ap (λ xs. page query params (map (λ (o : Output). o.1) xs)) (at_most_one (option_map (λ x. ([], show (n, x))) (get m n)) a.ordered (subst (λ xs. IsPermutation xs a.ordered) kept a.same)) ∙ last (get m n)
    where
      query : Query
      query = by_number tree project

      params : Row
      params = Int (pos n) ∷ more

      one : (o : Option X) → map {B = Output} (λ (e : ℕ × X). ([], show e)) (option_to_list (option_map (λ x. (n, x)) o)) ≡ option_to_list (option_map (λ x. ([], show (n, x))) o)
      one None = refl
      one (Some x) = refl

      last : (o : Option X) → page query params (map (λ (o : Output). o.1) (option_to_list (option_map (λ x. ([], show (n, x))) o))) ≡ option_to_list (option_map (λ x. show (n, x)) o)
      last None = refl
      last (Some x) = refl

      kept : a.kept ≡ option_to_list (option_map (λ x. ([], show (n, x))) (get m n))
      kept = a.distinct ∙ ap (map (output query)) (a.grouped ∙ ap (flat_map _) read)
          ∙ matched (λ e. row_of columns (pos e.0, e)) params query.filter (tied nat_cmp nat_cmp_total n) (output query) (λ e. ([], show e)) number_agrees (λ r e alike. ap (λ row. ([], row)) (shows r e alike))
          (db tree) (map (λ p. p.1) h.table.numbered) (keyed_rows columns (db tree) h.table.numbered h.keyed h.table.are)
          ∙ ap (map {B = Output} (λ (e : ℕ × X). ([], show e))) (entries_hit nat_cmp_total nat_cmp-IsAntisymmetric (row_of columns) (λ _. refl) n (db tree) m h.table) ∙ one (get m n)

module _ {X : Type 0} (columns : X → Row) (tree : ℕ) (project : List Term) (show : ℤ × ((ℕ × ℕ) × X) → Row) (k : ℕ × ℕ) (more : Row)
    (shows : (r : Row) (p : ℤ × ((ℕ × ℕ) × X)) → ReadAlike r (stored columns p) → eval_all project ((Int (pos k.0) ∷ Int (pos k.1) ∷ more) ∷ r ∷ []) ≡ show p) where
  pair_agrees : (r : Row) (p : ℤ × ((ℕ × ℕ) × X)) → ReadAlike r (stored columns p) → list_all (holds ((Int (pos k.0) ∷ Int (pos k.1) ∷ more) ∷ r ∷ [])) (by_pair tree project).filter ≡ tied pair_cmp pair_total k p.1
  pair_agrees r p one = rw (one 1, one 2, equals_holds p.1.0.0 k.0, equals_holds p.1.0.1 k.1) (both_equal (nat_cmp k.0 p.1.0.0) (nat_cmp k.1 p.1.0.1))

  -- exactly the row of the pair, if there is one
  pub found_by_pair : (db : Trees) (m : FinMap pair_cmp X) (found : List Row) → overlay db [] tree ≡ db tree → (h : HoldsPairs columns (db tree) m) → IsAnswer (by_pair tree project) (overlay db []) (Int (pos k.0) ∷ Int (pos k.1) ∷ more) found
      → (o : Option (ℤ × ((ℕ × ℕ) × X))) → filter (has_key pair_total pair_same (stored columns) (λ _. refl) k (db tree) m h) h.numbered ≡ option_to_list o → found ≡ option_to_list (option_map show o)
  found_by_pair db m found read h a o hit = a.shown ∙ ap (λ xs. page query params (map (λ (o : Output). o.1) xs)) (at_most_one (option_map (λ p. ([], show p)) o) a.ordered (subst (λ xs. IsPermutation xs a.ordered) kept a.same)) ∙ last o
    where
      query : Query
      query = by_pair tree project

      params : Row
      params = Int (pos k.0) ∷ Int (pos k.1) ∷ more

      one : (o : Option (ℤ × ((ℕ × ℕ) × X))) → map {B = Output} (λ (p : ℤ × ((ℕ × ℕ) × X)). ([], show p)) (option_to_list o) ≡ option_to_list (option_map (λ p. ([], show p)) o)
      one None = refl
      one (Some p) = refl

      last : (o : Option (ℤ × ((ℕ × ℕ) × X))) → page query params (map (λ (o : Output). o.1) (option_to_list (option_map (λ p. ([], show p)) o))) ≡ option_to_list (option_map show o)
      last None = refl
      last (Some p) = refl

      kept : a.kept ≡ option_to_list (option_map (λ p. ([], show p)) o)
      kept = a.distinct ∙ ap (map (output query)) (a.grouped ∙ ap (flat_map _) read)
          ∙ matched (stored columns) params query.filter (λ p. tied pair_cmp pair_total k p.1) (output query) (λ p. ([], show p)) pair_agrees (λ r p alike. ap (λ row. ([], row)) (shows r p alike)) (db tree) h.numbered h.are
          ∙ ap (map {B = Output} (λ (p : ℤ × ((ℕ × ℕ) × X)). ([], show p))) hit ∙ one o
