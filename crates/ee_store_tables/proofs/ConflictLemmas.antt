-- INSERT .. ON CONFLICT (..) DO NOTHING of one row.
use Rattle.std.proofs.Common.{◌≡◌, ◌⊎◌, inl, inr, ℕ, ℤ, pos, List, [], ◌∷◌, map, Bool, true, Some, None, Option, Ok, refl, sym, ap, ◌∙◌, nat_cmp}
use Rattle.std.specs.Prelude.{◌||◌}
use Rattle.std.specs.List.{list_any}
use Rattle.std.specs.FinMap.{FinMap, get, nat_cmp-IsAntisymmetric}
use Rattle.std.proofs.lemmas.Cmp.{nat_cmp_total}
use Rattle.std.proofs.Math.Bool.{and-true, or-true}
use Rattle.sqlite.specs.declared.types.Value.TheVariants.{Int}
use Rattle.sqlite.specs.Order.{Row}
use Rattle.sqlite.specs.Ops.{binary}
use Rattle.sqlite_value.specs.Keys.{plain, first_key}
use Rattle.sqlite.specs.Tree.{Trees}
use Rattle.sqlite.specs.Rows.{Task, Written, Tries, Judged, Meets, Upserts, Clears, Puts}
use Rattle.sqlite_schema.specs.declared.command.Conflict.TheVariants.{Abort}
use Rattle.sqlite_schema.specs.declared.command.Upsert.{Upsert}
use Rattle.sqlite_schema.specs.Rules.{agree}
use Rattle.sqlite_rules.specs.declared.error.Refusal.{Refusal}
use Rattle.sqlite_rules.specs.Keys.{AreConflicts}
use Rattle.sqlite_rules.specs.Lists.{Has}
use Rattle.ee_store_tables.specs.Keyed.{pair_cmp, row_of, stored, HoldsMap, HoldsPairs}
use Rattle.ee_store_tables.proofs.PairLemmas.{tied, any_alike}
use Rattle.ee_store_tables.proofs.HoldsLemmas.{pair_total, pair_same, never_tied}
use Rattle.ee_store_tables.proofs.ReadLemmas.{keyed_rows}
use Rattle.ee_store_tables.proofs.SelectLemmas.{equals_holds, both_equal}
use Rattle.ee_store_tables.proofs.WriteLemmas.{same_value}

module _ (task : Task) (target : Option (List ℕ)) (new : Row) (db : Trees) (one : Written) where
  abbrev pub clauses : List Upsert
  clauses = record { target = target; update = None } ∷ []

  -- the row meets one that is there, and nothing is written, or it goes in
  abbrev pub MeetsOrPuts : Type 0
  MeetsOrPuts = ((there : Row) × (more : List Row) × AreConflicts target task.schema.indexes task.table (db task.table.tree) new (there ∷ more) × (one.trees ≡ db)) ⊎ Puts task new db (Ok one)

  cleared : (found : List Row) → Clears task Abort new db found (Ok one) → Puts task new db (Ok one)
  cleared [] h = h
  cleared (x ∷ more) h = h

  met : (found : List Row) → AreConflicts target task.schema.indexes task.table (db task.table.tree) new found
      → Meets task (Upserts task Abort new db []) new db (record { target = target; update = None }) found (Ok one) → MeetsOrPuts
  met [] conflicts h = inr (cleared h.0 h.2)
  met (there ∷ more) conflicts h = inl (there, more, conflicts, ap (λ (w : Written). w.trees) (same_value h))

  judged : (verdict : Option Refusal) → Judged task Abort clauses new db verdict (Ok one) → MeetsOrPuts
  judged None h = met h.0 h.1 h.2
  judged (Some why) h = absurd (let e = h in cc)

  pub tried : Tries task Abort clauses new db (Ok one) → MeetsOrPuts
  tried (inl refused) = absurd (let e = refused.1 in cc)
  tried (inr it) = judged it.0 it.2

any_of : {A : Type 0} (q : A → Bool) (xs : List A) (x : A) → Has xs x → q x ≡ true → list_any q xs ≡ true
any_of q [] x h good = absurd h
any_of q (y ∷ ys) x (inl same) good = ap (λ b. b || list_any q ys) (ap q (sym same) ∙ good)
any_of q (y ∷ ys) x (inr later) good = ap (λ b. q y || b) (any_of q ys x later good) ∙ or-true (q y)

some_or_none : {X : Type 0} (o : Option X) → (o ≡ None → ⊥) → (x : X) × (o ≡ Some x)
some_or_none None h = absurd (h refl)
some_or_none (Some x) h = (x, refl)

-- a row that has the rowid of a key
pub number_there : {X : Type 0} (columns : X → Row) (n : ℕ) (rows : List Row) (m : FinMap nat_cmp X) (h : HoldsMap columns rows m) (new : Row) → new ≡ new → (r : Row) → Has rows r
    → agree plain (0 ∷ []) r (0 ∷ []) (Int (pos n) ∷ new) ≡ true → (old : X) × (get m n ≡ Some old)
unfolding binary first_key
number_there columns n rows m h new _ r has agrees =
    some_or_none (get m n) (λ none. never_tied nat_cmp_total nat_cmp-IsAntisymmetric (row_of columns) (λ _. refl) n rows m h.table none
    (sym (any_alike (λ e. row_of columns (pos e.0, e)) (λ r. agree plain (0 ∷ []) r (0 ∷ []) (Int (pos n) ∷ new)) (tied nat_cmp nat_cmp_total n) (λ r e one. rw (one 0, equals_holds e.0 n) (and-true _))
    rows _ (keyed_rows columns rows h.table.numbered h.keyed h.table.are)) ∙ any_of _ rows r has agrees))

-- a row that has the two columns of a key
pub pair_there : {X : Type 0} (columns : X → Row) (k : ℕ × ℕ) (rows : List Row) (m : FinMap pair_cmp X) (h : HoldsPairs columns rows m) (id : ℤ) (x : X) (r : Row) → Has rows r
    → agree plain (1 ∷ 2 ∷ []) r (1 ∷ 2 ∷ []) (stored columns (id, (k, x))) ≡ true → (old : X) × (get m k ≡ Some old)
unfolding binary first_key
pair_there columns k rows m h id x r has agrees =
    some_or_none (get m k) (λ none. never_tied pair_total pair_same (stored columns) (λ _. refl) k rows m h none
    (any_map _ (λ p. p.1) h.numbered ∙ sym (any_alike (stored columns) (λ r. agree plain (1 ∷ 2 ∷ []) r (1 ∷ 2 ∷ []) (stored columns (id, (k, x)))) (λ p. tied pair_cmp pair_total k p.1)
    (λ r p one. rw (one 1, one 2, equals_holds p.1.0.0 k.0, equals_holds p.1.0.1 k.1) (both_equal (nat_cmp k.0 p.1.0.0) (nat_cmp k.1 p.1.0.1))) rows h.numbered h.are) ∙ any_of _ rows r has agrees))
  where
    any_map : {A B : Type 0} (q : B → Bool) (f : A → B) (xs : List A) → list_any q (map f xs) ≡ list_any (λ a. q (f a)) xs
    any_map q f [] = refl
    any_map q f (x ∷ xs) = ap (λ b. q (f x) || b) (any_map q f xs)
