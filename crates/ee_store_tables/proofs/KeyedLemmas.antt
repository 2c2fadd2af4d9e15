-- A table whose key is a number, after each kind of write.
use Rattle.std.proofs.Common.{◌≡◌, ℕ, ℤ, pos, List, [], ◌∷◌, filter, Bool, false, Some, None, Option, refl, sym, ap, subst, ◌∙◌, nat_cmp}
use Rattle.std.specs.Prelude.{not}
use Rattle.std.specs.List.{AllByRecursion}
use Rattle.std.specs.Ordering.{int_eq, is_eq}
use Rattle.std.specs.FinMap.{FinMap, get, insert, nat_cmp-IsAntisymmetric}
use Rattle.std.proofs.lemmas.Cmp.{nat_cmp_total, int_cmp_total}
use Rattle.std.specs.Cmp.{tied_itself}
use Rattle.sqlite.specs.Order.{Row}
use Rattle.sqlite.specs.Tree.{put_row, without_rowid}
use Rattle.sqlite_rules.specs.Edit.{is_taken}
use Rattle.sqlite_keyed.proofs.ListLemmas.{all-filter}
use Rattle.ee_store_tables.specs.Keyed.{row_of, HoldsMap}
use Rattle.ee_store_tables.proofs.PairLemmas.{alike_itself, with_number, new_number, all_with}
use Rattle.ee_store_tables.proofs.HoldsLemmas.{has_key, hit_row, any_hit, added_are, added_apart, added_same, replaced_are, replaced_apart, replaced_same}

module _ {X : Type 0} (columns : X → Row) (n : ℕ) (rows : List Row) (m : FinMap nat_cmp X) (h : HoldsMap columns rows m) where
  abbrev pub row : X → Row
  row x = row_of columns (pos n, (n, x))

  abbrev pub hits_key : ℤ × (ℕ × X) → Bool
  hits_key = has_key nat_cmp_total nat_cmp-IsAntisymmetric (row_of columns) (λ _. refl) n rows m h.table

  pub keyed_hit : (x : X) → get m n ≡ Some x → filter hits_key h.table.numbered ≡ (pos n, (n, x)) ∷ []
  keyed_hit x has =
      let one = hit_row nat_cmp_total nat_cmp-IsAntisymmetric (row_of columns) (λ _. refl) n rows m h.table x has in
      let key : one.0 ≡ pos n = (subst (AllByRecursion (λ p. p.0 ≡ pos p.1.0)) one.1 (all-filter _ hits_key h.table.numbered h.keyed)).0 in
      subst (λ i. filter hits_key h.table.numbered ≡ (i, (n, x)) ∷ []) key one.1

  -- a rowid that no row has is a key that no entry has
  pub no_key : (x : X) → is_taken rows (row x) ≡ false → get m n ≡ None
  no_key x fresh = go (get m n) refl
    where
      go : (o : Option X) → get m n ≡ o → o ≡ None
      go None has = refl
      go (Some old) has =
          let free = new_number (row_of columns) (λ _. refl) (row x) (pos n, (n, x)) (alike_itself (row x)) rows h.table.numbered h.table.are fresh in
          let there = any_hit hits_key (λ q. int_eq q.0 (pos n)) (pos n, (n, old)) h.table.numbered (keyed_hit old has) (ap is_eq (tied_itself int_cmp_total (pos n))) in
          absurd (let a = sym there ∙ free in cc)

  pub adds_keyed : (x : X) → is_taken rows (row x) ≡ false → HoldsMap columns (put_row (row x) rows) (insert m n x)
  adds_keyed x fresh =
      let none = no_key x fresh in
      record {
        table = record {
          numbered = with_number h.table.numbered (pos n, (n, x));
          are = added_are nat_cmp_total nat_cmp-IsAntisymmetric (row_of columns) (λ _. refl) n rows m h.table (row x) (pos n) x (alike_itself (row x)) none fresh;
          apart = added_apart nat_cmp_total nat_cmp-IsAntisymmetric (row_of columns) (λ _. refl) n rows m h.table (row x) (pos n) x (alike_itself (row x)) none fresh;
          same = added_same nat_cmp_total nat_cmp-IsAntisymmetric (row_of columns) (λ _. refl) n rows m h.table (row x) (pos n) x (alike_itself (row x)) none fresh;
        };
        keyed = all_with _ (pos n, (n, x)) h.table.numbered refl h.keyed;
      }

  pub replaces_keyed : (old next : X) → get m n ≡ Some old → is_taken (without_rowid (pos n) rows) (row next) ≡ false → HoldsMap columns (put_row (row next) (without_rowid (pos n) rows)) (insert m n next)
  replaces_keyed old next has fresh =
      let one = keyed_hit old has in
      record {
        table = record {
          numbered = with_number (filter (λ q. not (hits_key q)) h.table.numbered) (pos n, (n, next));
          are = replaced_are nat_cmp_total nat_cmp-IsAntisymmetric (row_of columns) (λ _. refl) n rows m h.table (row next) old next (pos n) one (alike_itself (row next)) fresh;
          apart = replaced_apart nat_cmp_total nat_cmp-IsAntisymmetric (row_of columns) (λ _. refl) n rows m h.table (row next) old next (pos n) one (alike_itself (row next)) fresh;
          same = replaced_same nat_cmp_total nat_cmp-IsAntisymmetric (row_of columns) (λ _. refl) n rows m h.table (row next) old next (pos n) one (alike_itself (row next)) fresh;
        };
        keyed = all_with _ (pos n, (n, next)) _ refl (all-filter _ (λ q. not (hits_key q)) h.table.numbered h.keyed);
      }
