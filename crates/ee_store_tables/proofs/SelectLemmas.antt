-- WHERE over the rows of a table.
use Rattle.std.proofs.Common.{◌≡◌, ℕ, ℤ, pos, List, [], ◌∷◌, map, filter, Bool, true, false, cond, refl, ap, ap₂, ◌∙◌, Ordering, Less, Equal, Greater, nat_cmp, arith, Some}
use Rattle.std.specs.Prelude.{flat_map, ◌&&◌, if◌then◌else◌}
use Rattle.std.specs.List.{list_all}
use Rattle.std.specs.Ordering.{is_eq, is_ne, int_eq, ordering_then}
use Rattle.std.proofs.lemmas.Bool.Decides.{nat_tests}
use Rattle.sqlite.specs.declared.types.Value.TheVariants.{Int}
use Rattle.sqlite.specs.Order.{Row, value_cmp}
use Rattle.sqlite.specs.Ops.{binary, is_true, from_truth}
use Rattle.sqlite.specs.Term.{Term}
use Rattle.sqlite_sql.specs.Term.{Env, holds}
use Rattle.sqlite_sql.specs.declared.ops.BinaryOp.TheVariants.{Compare}
use Rattle.sqlite_sql.specs.declared.ops.CompareOp.TheVariants.{Eq, Ne}
use Rattle.sqlite.specs.Collation.TheVariants.{Binary}
use Rattle.sqlite_value.proofs.OrderLemmas.{value_cmp-Int}
use Rattle.ee_store_tables.specs.Keyed.{ReadAlike, AreRows}

pub cmp_pos : (m n : ℕ) → value_cmp (Int (pos m)) (Int (pos n)) ≡ nat_cmp m n
cmp_pos m n = value_cmp-Int (pos m) (pos n) ∙ grind (arith, nat_tests)

pub truth_of : (b : Bool) → is_true (from_truth (Some b)) ≡ b
truth_of true = refl
truth_of false = refl

pub turned_test : (m n : ℕ) → is_eq (nat_cmp m n) ≡ is_eq (nat_cmp n m)
turned_test m n = grind (arith, nat_tests)

-- `column = parameter`
pub equals_holds : (k n : ℕ) → is_true (binary (Compare Eq Binary) (Int (pos k)) (Int (pos n))) ≡ is_eq (nat_cmp n k)
unfolding binary
equals_holds k n = truth_of _ ∙ ap is_eq (cmp_pos k n) ∙ turned_test k n

pub both_equal : (a b : Ordering) → (is_eq a && (is_eq b && true)) ≡ is_eq (ordering_then a b)
both_equal Less b = refl
both_equal Equal b = go b
  where
    go : (b : Ordering) → (is_eq b && true) ≡ is_eq b
    go Less = refl
    go Equal = refl
    go Greater = refl
both_equal Greater b = refl

module _ {A B : Type 0} (row : A → Row) (params : Row) (terms : List Term) (test : A → Bool) (show : Env → B) (out : A → B)
    (agrees : (r : Row) (a : A) → ReadAlike r (row a) → list_all (holds (params ∷ r ∷ [])) terms ≡ test a)
    (shows : (r : Row) (a : A) → ReadAlike r (row a) → show (params ∷ r ∷ []) ≡ out a) where
  -- the rows that WHERE keeps, as they are shown
  pub matched : (rows : List Row) (xs : List A) → AreRows row rows xs
      → map show (flat_map (λ r. if list_all (holds (params ∷ r ∷ [])) terms then (params ∷ r ∷ []) ∷ [] else []) rows) ≡ map out (filter test xs)
  matched [] [] h = refl
  matched [] (a ∷ xs) h = absurd h
  matched (r ∷ rows) [] h = absurd h
  matched (r ∷ rows) (a ∷ xs) h = rw (agrees r a h.0) (go (test a) (matched rows xs h.1))
    where
      kept : List Env
      kept = flat_map (λ r. if list_all (holds (params ∷ r ∷ [])) terms then (params ∷ r ∷ []) ∷ [] else []) rows

      go : (b : Bool) → map show kept ≡ map out (filter test xs)
          → map show (Rattle.std.specs.Prelude.◌++◌ (if b then (params ∷ r ∷ []) ∷ [] else []) kept) ≡ map out (cond b (a ∷ filter test xs) (filter test xs))
      go true rest = ap₂ ◌∷◌ (shows r a h.0) rest
      go false rest = rest

ne_if : (o : Ordering) → is_eq o ≡ false → is_ne o ≡ true
ne_if Less e = refl
ne_if Equal e = cc
ne_if Greater e = refl

pub differs : (i j : ℤ) → int_eq i j ≡ false → is_true (binary (Compare Ne Binary) (Int i) (Int j)) ≡ true
unfolding binary
differs i j e = truth_of _ ∙ ne_if _ (ap is_eq (value_cmp-Int i j) ∙ e)
