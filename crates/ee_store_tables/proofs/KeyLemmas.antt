-- A table's unique keys after a row is put in.
use Rattle.std.proofs.Common.{◌≡◌, ◌≢◌, true≢false, inl, inr, ℕ, ℤ, pos, List, [], ◌∷◌, filter, map, Bool, true, false, not, refl, sym, ap, ◌∙◌, arith, Less, Equal, Greater, nat_cmp, None}
use Rattle.std.specs.Prelude.{◌&&◌, ◌||◌}
use Rattle.std.specs.List.{AllByRecursion, list_any}
use Rattle.std.specs.Ordering.{match_ordering, is_eq, is_ne}
use Rattle.std.specs.Cmp.{tied_itself}
use Rattle.std.specs.FinMap.{FinMap, get, entries}
use Rattle.std.proofs.lemmas.Cmp.{nat_cmp_total, int_cmp_total}
use Rattle.std.proofs.lemmas.List.Sorted.{IsPermutation-sym}
use Rattle.sqlite_trees.proofs.ListLemmas.{all-permutation}
use Rattle.std.proofs.lemmas.Bool.{cases_Bool, or_parts}
use Rattle.std.proofs.lemmas.Bool.Decides.{nat_tests}
use Rattle.sqlite.specs.declared.types.Value.TheVariants.{Int}
use Rattle.sqlite.specs.Order.{Row, value_cmp}
use Rattle.sqlite.specs.Ops.{binary}
use Rattle.sqlite.specs.Tree.{Trees, rowid, put_row}
use Rattle.sqlite_value.specs.Keys.{plain, first_key}
use Rattle.sqlite_value.proofs.OrderLemmas.{value_cmp-Int}
use Rattle.sqlite_schema.specs.declared.schema.Constraint.TheVariants.{Unique}
use Rattle.sqlite_schema.specs.Rules.{agree, differ, clashes, passes}
use Rattle.sqlite_keyed.proofs.RuleLemmas.{first_of_both, second_of_both}
use Rattle.sqlite_keyed.proofs.ListLemmas.{all_weaker, all_both, all-filter, any_from_none, none_from_any, all_unmap}
use Rattle.sqlite.specs.Schema.{Schema}
use Rattle.ee_store_tables.specs.Tables.{bonds, paid, answers, with_others, AreOthers}
use Rattle.ee_store_tables.specs.Keyed.{pair_cmp, stored, HoldsPairs, ReadAlike, AreRows}
use Rattle.ee_store_tables.specs.Rows.{PaidRow, paid_columns}
use Rattle.ee_store_tables.proofs.PairLemmas.{tied}
use Rattle.ee_store_tables.proofs.HoldsLemmas.{pair_total, pair_same, never_tied}
use Rattle.ee_store_tables.proofs.SelectLemmas.{truth_of, equals_holds}
use Rattle.ee_store_tables.proofs.WriteLemmas.{not_so}
use Rattle.ee_store_tables.proofs.OtherLemmas.{unguarded}

neither : (a b : Bool) → a ≡ false → b ≡ false → (a || b) ≡ false
neither true b h k = absurd cc
neither false b h k = k

any_put : (q : Row → Bool) (new : Row) (rows : List Row) → q new ≡ false → list_any q rows ≡ false → list_any q (put_row new rows) ≡ false
any_put q new [] own h = neither (q new) false own refl
any_put q new (r ∷ rows) own h =
    let two : (q r ≡ false) × (list_any q rows ≡ false) = or_parts (q r) (list_any q rows) h in
    elim (value_cmp (rowid r) (rowid new)) as (λ o. list_any q (match_ordering o (r ∷ put_row new rows) (new ∷ rows) (new ∷ r ∷ rows)) ≡ false) [
      | Less ↦ neither (q r) _ two.0 (any_put q new rows own two.1)
      | Equal ↦ neither (q new) _ own two.1
      | Greater ↦ neither (q new) _ own h
    ]

each_put : (P : Row → Type 0) (new : Row) (rows : List Row) → P new → AllByRecursion P rows → AllByRecursion P (put_row new rows)
each_put P new [] own h = (own, tt)
each_put P new (r ∷ rows) own h =
    elim (value_cmp (rowid r) (rowid new)) as (λ o. AllByRecursion P (match_ordering o (r ∷ put_row new rows) (new ∷ rows) (new ∷ r ∷ rows))) [
      | Less ↦ (h.0, each_put P new rows own h.1)
      | Equal ↦ (own, h.1)
      | Greater ↦ (own, h)
    ]

-- a row has the rowid that it has
pub same_rowid : (i : ℤ) → differ (Int i) (Int i) ≡ false
unfolding binary
same_rowid i = truth_of _ ∙ ap is_ne (value_cmp-Int i i ∙ tied_itself int_cmp_total i)

no_both : (a b : Bool) → b ≡ false → (a && b) ≡ false
no_both true b h = h
no_both false b h = refl

no_first : (a b : Bool) → a ≡ false → (a && b) ≡ false
no_first true b h = absurd cc
no_first false b h = refl

module _ (places : List ℕ) (new : Row) (rows : List Row) where
  -- no row has the key of the new one
  abbrev pub IsOther : Row → Type 0
  IsOther r = (agree plain places r places new ≡ false) × (agree plain places new places r ≡ false)

  -- no two have one key
  pub put_apart : differ (rowid new) (rowid new) ≡ false → AllByRecursion IsOther rows → AllByRecursion (λ r. clashes plain places rows r ≡ false) rows
      → AllByRecursion (λ r. clashes plain places (put_row new rows) r ≡ false) (put_row new rows)
  put_apart own others apart =
      let none = any_from_none _ rows (all_weaker IsOther (λ r. (agree plain places r places new && differ (rowid r) (rowid new)) ≡ false) (λ r o. no_first _ _ o.0) rows others) in
      each_put (λ r. clashes plain places (put_row new rows) r ≡ false) new rows
      (any_put (λ r. agree plain places r places new && differ (rowid r) (rowid new)) new rows (no_both _ _ own) none)
      (all_both IsOther (λ r. clashes plain places rows r ≡ false) (λ r. clashes plain places (put_row new rows) r ≡ false)
      (λ r o h. any_put (λ x. agree plain places x places r && differ (rowid x) (rowid r)) new rows (no_first _ _ o.1) h) rows others apart)

-- so it is of the rows that are left
pub left_apart : (places : List ℕ) (p : Row → Bool) (rows : List Row) → AllByRecursion (λ r. clashes plain places rows r ≡ false) rows → AllByRecursion (λ r. clashes plain places (filter p rows) r ≡ false) (filter p rows)
left_apart places p rows apart =
    all-filter _ p rows (all_weaker (λ r. clashes plain places rows r ≡ false) (λ r. clashes plain places (filter p rows) r ≡ false) (λ r h. any_from_none _ (filter p rows) (all-filter _ p rows (none_from_any _ rows h))) rows apart)

-- what the rules of the tables say
pub bonds_apart : (others : Schema) (db : Trees) → AllByRecursion (λ r. passes Unique (with_others others) db bonds r ≡ true) (db 2) → AllByRecursion (λ r. clashes plain (1 ∷ 2 ∷ []) (db 2) r ≡ false) (db 2)
bonds_apart others db = all_weaker (λ r. passes Unique (with_others others) db bonds r ≡ true) (λ r. clashes plain (1 ∷ 2 ∷ []) (db 2) r ≡ false) (λ r h. not_so _ (first_of_both _ _ h)) (db 2)

pub bonds_unique : (others : Schema) → AreOthers others → (db : Trees) → AllByRecursion (λ r. clashes plain (1 ∷ 2 ∷ []) (db 2) r ≡ false) (db 2) → AllByRecursion (λ r. passes Unique (with_others others) db bonds r ≡ true) (db 2)
bonds_unique others them db = all_weaker (λ r. clashes plain (1 ∷ 2 ∷ []) (db 2) r ≡ false) (λ r. passes Unique (with_others others) db bonds r ≡ true) (λ r e. rw (e, unguarded others them bonds (omega arith) db r) refl) (db 2)

pub answers_apart : (others : Schema) (db : Trees) → AllByRecursion (λ r. passes Unique (with_others others) db answers r ≡ true) (db 13) → AllByRecursion (λ r. clashes plain (1 ∷ 2 ∷ []) (db 13) r ≡ false) (db 13)
answers_apart others db = all_weaker (λ r. passes Unique (with_others others) db answers r ≡ true) (λ r. clashes plain (1 ∷ 2 ∷ []) (db 13) r ≡ false) (λ r h. not_so _ (first_of_both _ _ h)) (db 13)

pub answers_unique : (others : Schema) → AreOthers others → (db : Trees) → AllByRecursion (λ r. clashes plain (1 ∷ 2 ∷ []) (db 13) r ≡ false) (db 13) → AllByRecursion (λ r. passes Unique (with_others others) db answers r ≡ true) (db 13)
answers_unique others them db = all_weaker (λ r. clashes plain (1 ∷ 2 ∷ []) (db 13) r ≡ false) (λ r. passes Unique (with_others others) db answers r ≡ true) (λ r e. rw (e, unguarded others them answers (omega arith) db r) refl) (db 13)

pub places_apart : (others : Schema) (db : Trees) → AllByRecursion (λ r. passes Unique (with_others others) db paid r ≡ true) (db 7) → AllByRecursion (λ r. clashes plain (1 ∷ 2 ∷ []) (db 7) r ≡ false) (db 7)
places_apart others db = all_weaker (λ r. passes Unique (with_others others) db paid r ≡ true) (λ r. clashes plain (1 ∷ 2 ∷ []) (db 7) r ≡ false) (λ r h. not_so _ (first_of_both _ _ h)) (db 7)

pub paid_apart : (others : Schema) (db : Trees) → AllByRecursion (λ r. passes Unique (with_others others) db paid r ≡ true) (db 7) → AllByRecursion (λ r. clashes plain (3 ∷ 4 ∷ []) (db 7) r ≡ false) (db 7)
paid_apart others db = all_weaker (λ r. passes Unique (with_others others) db paid r ≡ true) (λ r. clashes plain (3 ∷ 4 ∷ []) (db 7) r ≡ false) (λ r h. not_so _ (first_of_both _ _ (second_of_both _ _ h))) (db 7)

pub paid_unique : (others : Schema) → AreOthers others → (db : Trees) → AllByRecursion (λ r. clashes plain (1 ∷ 2 ∷ []) (db 7) r ≡ false) (db 7) → AllByRecursion (λ r. clashes plain (3 ∷ 4 ∷ []) (db 7) r ≡ false) (db 7) → AllByRecursion (λ r. passes Unique (with_others others) db paid r ≡ true) (db 7)
paid_unique others them db = all_both (λ r. clashes plain (1 ∷ 2 ∷ []) (db 7) r ≡ false) (λ r. clashes plain (3 ∷ 4 ∷ []) (db 7) r ≡ false) (λ r. passes Unique (with_others others) db paid r ≡ true) (λ r d e. rw (d, e, unguarded others them paid (omega arith) db r) refl) (db 7)

-- ---- keys of two numbers

two_differ : (a b c d : ℕ) → ¬ ((a ≡ c) × (b ≡ d)) → (is_eq (nat_cmp c a) && (is_eq (nat_cmp d b) && true)) ≡ false
two_differ a b c d apart = elim (cases_Bool (is_eq (nat_cmp c a))) [
  | inl one ↦ elim (cases_Bool (is_eq (nat_cmp d b))) [
    | inl two ↦ absurd (apart (grind (arith, nat_tests), grind (arith, nat_tests)))
    | inr two ↦ rw (one, two) refl
  ]
  | inr one ↦ rw one refl
]

-- a row whose two columns are other numbers has another key
pub other_key : (p q : ℕ) (new r : Row) (a b c d : ℕ) → Rattle.sqlite.specs.Order.column new p ≡ Int (pos c) → Rattle.sqlite.specs.Order.column new q ≡ Int (pos d) → Rattle.sqlite.specs.Order.column r p ≡ Int (pos a)
    → Rattle.sqlite.specs.Order.column r q ≡ Int (pos b) → ¬ ((a ≡ c) × (b ≡ d)) → IsOther (p ∷ q ∷ []) new [] r
unfolding binary first_key
other_key p q new r a b c d new_p new_q r_p r_q apart =
    rw (new_p, new_q, r_p, r_q, equals_holds a c, equals_holds b d, equals_holds c a, equals_holds d b) (two_differ a b c d apart, two_differ c d a b (λ e. apart (sym e.0, sym e.1)))

-- what holds of the things listed holds of their rows
pub all_alike : {A : Type 0} (row : A → Row) (P : Row → Type 0) (Q : A → Type 0) → ((r : Row) (a : A) → ReadAlike r (row a) → Q a → P r) → (rows : List Row) (xs : List A) → AreRows row rows xs → AllByRecursion Q xs → AllByRecursion P rows
all_alike row P Q next [] [] are all = tt
all_alike row P Q next [] (x ∷ xs) are all = absurd are
all_alike row P Q next (r ∷ rows) [] are all = absurd are
all_alike row P Q next (r ∷ rows) (x ∷ xs) are all = (next r x are.0 all.0, all_alike row P Q next rows xs are.1 all.1)

-- what holds of rows that are read alike holds of them in another form
pub alike_both : {A : Type 0} (row : A → Row) (P Q : Row → Type 0) → ((r : Row) (a : A) → ReadAlike r (row a) → P r → Q r) → (rows : List Row) (xs : List A) → AreRows row rows xs → AllByRecursion P rows → AllByRecursion Q rows
alike_both row P Q next [] [] are all = tt
alike_both row P Q next [] (x ∷ xs) are all = absurd are
alike_both row P Q next (r ∷ rows) [] are all = absurd are
alike_both row P Q next (r ∷ rows) (x ∷ xs) are all = (next r x are.0 all.0, alike_both row P Q next rows xs are.1 all.1)

pub untied_differs : (k j : ℕ × ℕ) → is_eq (pair_cmp k j) ≡ false → ¬ ((j.0 ≡ k.0) × (j.1 ≡ k.1))
untied_differs k j untied same = true≢false (sym (rw (same.0, same.1, tied_itself nat_cmp_total k.0, tied_itself nat_cmp_total k.1) refl) ∙ untied)

-- a key that has no entry is that of no row
pub keys_differ : {X : Type 0} (columns : X → Row) (k : ℕ × ℕ) (rows : List Row) (m : FinMap pair_cmp X) (h : HoldsPairs columns rows m) → get m k ≡ None → AllByRecursion (λ p. ¬ ((p.1.0.0 ≡ k.0) × (p.1.0.1 ≡ k.1))) h.numbered
keys_differ {X} columns k rows m h none =
    let apart : list_any (tied pair_cmp pair_total k) (map (λ (p : ℤ × ((ℕ × ℕ) × X)). p.1) h.numbered) ≡ false = elim (cases_Bool (list_any (tied pair_cmp pair_total k) (map (λ (p : ℤ × ((ℕ × ℕ) × X)). p.1) h.numbered))) [
      | inl hit ↦ absurd (never_tied pair_total pair_same (stored columns) (λ _. refl) k rows m h none hit)
      | inr miss ↦ miss
    ] in
    all_weaker (λ (p : ℤ × ((ℕ × ℕ) × X)). tied pair_cmp pair_total k p.1 ≡ false) (λ p. ¬ ((p.1.0.0 ≡ k.0) × (p.1.0.1 ≡ k.1)))
    (λ p untied. untied_differs k p.1.0 untied) h.numbered
    (all_unmap (λ e. tied pair_cmp pair_total k e ≡ false) (λ (p : ℤ × ((ℕ × ℕ) × X)). p.1) h.numbered (none_from_any _ _ apart))

-- no row pays a bond that no line pays
pub bonds_differ : (k : ℕ × ℕ) (rows : List Row) (m : FinMap pair_cmp PaidRow) (h : HoldsPairs paid_columns rows m) → AllByRecursion (λ e. (e.1.letter, e.1.number) ≢ k) (entries m) → AllByRecursion (λ p. ¬ ((p.1.1.letter ≡ k.0) × (p.1.1.number ≡ k.1))) h.numbered
bonds_differ k rows m h unpaid =
    all_weaker (λ (p : ℤ × ((ℕ × ℕ) × PaidRow)). (p.1.1.letter, p.1.1.number) ≢ k) (λ p. ¬ ((p.1.1.letter ≡ k.0) × (p.1.1.number ≡ k.1))) (λ p apart same. apart (λ i. (same.0 i, same.1 i))) h.numbered
    (all_unmap (λ (e : (ℕ × ℕ) × PaidRow). (e.1.letter, e.1.number) ≢ k) (λ (p : ℤ × ((ℕ × ℕ) × PaidRow)). p.1) h.numbered
    (all-permutation (λ (e : (ℕ × ℕ) × PaidRow). (e.1.letter, e.1.number) ≢ k) (entries m) _ (IsPermutation-sym _ _ h.same) unpaid))
