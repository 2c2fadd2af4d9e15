-- A table that holds a map, after each kind of write.
use Rattle.std.proofs.Common.{◌≡◌, ℕ, ℤ, List, [], ◌∷◌, map, filter, Bool, true, false, not, inl, inr, Some, None, Option, refl, sym, ap, subst, ◌∙◌, Less, Equal, Greater, Ordering}
use Rattle.std.specs.Prelude.{option_map, IsPermutation, ◌||◌}
use Rattle.std.specs.List.{list_any}
use Rattle.std.proofs.lemmas.Bool.{cases_Bool}
use Rattle.std.specs.Option.{option_to_list}
use Rattle.std.specs.FinMap.Entries.{put}
use Rattle.std.specs.Ordering.{ordering_then}
use Rattle.std.specs.Cmp.{IsTotalOrder, then_total, on_total}
use Rattle.std.proofs.lemmas.Cmp.{nat_cmp_total}
use Rattle.std.specs.FinMap.{IsAntisymmetric, nat_cmp-IsAntisymmetric, FinMap, entries, get, insert, get-entries, entries_sorted, entries-insert}
use Rattle.std.proofs.lemmas.List.{nil_from_length}
use Rattle.std.proofs.lemmas.List.Sorted.{IsPermutation-sym, IsPermutation-trans, IsPermutation-cons, IsPermutation-map, length_permutation}
use Rattle.std.proofs.Math.Bool.{or-true}
use Rattle.sqlite.specs.declared.types.Value.TheVariants.{Int}
use Rattle.sqlite.specs.Order.{Row}
use Rattle.sqlite.specs.Tree.{put_row, without_rowid, rowid}
use Rattle.sqlite_rules.specs.Edit.{is_taken}
use Rattle.sqlite_keyed.proofs.ListLemmas.{map-map, filter-map, IsPermutation-filter, ascending-filter}
use Rattle.sqlite.proofs.Callers.{one_permutation}
use Rattle.ee_store_tables.specs.Keyed.{pair_cmp, ReadAlike, AreRows, AreApart, HoldsTable}
use Rattle.ee_store_tables.proofs.PairLemmas.{tied, put_permutes, untied_each, tied_entry, with_number, is_new, new_number, put_numbered, without_numbered, apart_with, with_is_more, others_fail}

pub pair_total : IsTotalOrder pair_cmp
pair_total = then_total (on_total (λ (p : ℕ × ℕ). p.0) nat_cmp_total) (on_total (λ (p : ℕ × ℕ). p.1) nat_cmp_total)

then_parts : (a b : Ordering) → ordering_then a b ≡ Equal → (a ≡ Equal) × (b ≡ Equal)
then_parts a b e = elim a as (λ o. ordering_then o b ≡ Equal → (o ≡ Equal) × (b ≡ Equal)) [ Less ↦ λ h. absurd cc | Equal ↦ λ h. (refl, h) | Greater ↦ λ h. absurd cc ] e

pub pair_same : IsAntisymmetric pair_cmp
pair_same x y e = let both = then_parts _ _ e in λ i. (nat_cmp-IsAntisymmetric x.0 y.0 both.0 i, nat_cmp-IsAntisymmetric x.1 y.1 both.1 i)

-- a list of one element at most has no other order
pub at_most_one : {X : Type 0} (o : Option X) (xs : List X) → IsPermutation (option_to_list o) xs → xs ≡ option_to_list o
at_most_one None xs h = nil_from_length xs (length_permutation [] xs h)
at_most_one (Some x) xs h = one_permutation x xs h

one_from_map : {A B : Type 0} (f : A → B) (xs : List A) (b : B) → map f xs ≡ b ∷ [] → (a : A) × (xs ≡ a ∷ []) × (f a ≡ b)
one_from_map f [] b e = absurd cc
one_from_map f (x ∷ []) b e = (x, refl, cc)
one_from_map f (x ∷ y ∷ xs) b e = absurd cc

none_from_map : {A B : Type 0} (f : A → B) (xs : List A) → map f xs ≡ [] → xs ≡ []
none_from_map f [] e = refl
none_from_map f (x ∷ xs) e = absurd cc

pub none_pass : {A : Type 0} (test : A → Bool) (xs : List A) → filter test xs ≡ [] → list_any test xs ≡ false
none_pass test [] h = refl
none_pass test (x ∷ xs) h =
    elim (cases_Bool (test x)) [
      | inl hit ↦ absurd (let a = rw hit at h in cc)
      | inr miss ↦ let rest = rw miss at h in rw miss (none_pass test xs rest)
    ]

-- what passes one test passes another
pub any_hit : {A : Type 0} (test q : A → Bool) (h : A) (xs : List A) → filter test xs ≡ h ∷ [] → q h ≡ true → list_any q xs ≡ true
any_hit test q h [] e good = absurd cc
any_hit test q h (x ∷ xs) e good =
    elim (cases_Bool (test x)) [
      | inl hit ↦ let two = rw hit at e in let same : x ≡ h = cc in rw (same, good) refl
      | inr miss ↦ let rest = rw miss at e in ap (λ b. q x || b) (any_hit test q h xs rest good) ∙ or-true (q x)
    ]

seconds_of : {K X : Type 0} (k : K) (o : Option X) → map (λ (e : K × X). e.1) (option_to_list (option_map (λ x. (k, x)) o)) ≡ option_to_list o
seconds_of k None = refl
seconds_of k (Some x) = refl

module _ {K X : Type 0} {R : K → K → Ordering} (total : IsTotalOrder R) (antisymmetric : IsAntisymmetric R) (row : ℤ × (K × X) → Row) (is : (p : ℤ × (K × X)) → rowid (row p) ≡ Int p.0) where
  abbrev pub Stored : Type 0
  Stored = ℤ × (K × X)

  module _ (k : K) (rows : List Row) (m : FinMap R X) (h : HoldsTable row rows m) where
    abbrev pub has_key : Stored → Bool
    has_key p = tied R total k p.1

    -- of the entries that the rows have, those of a key
    pub entries_hit : filter (tied R total k) (map (λ (p : Stored). p.1) h.numbered) ≡ option_to_list (option_map (λ x. (k, x)) (get m k))
    entries_hit =
        at_most_one _ _ (subst (λ es. IsPermutation es (filter (tied R total k) (map (λ (p : Stored). p.1) h.numbered)))
        (tied_entry R total k antisymmetric (entries m) (entries_sorted m) ∙ ap (λ o. option_to_list (option_map (λ x. (k, x)) o)) (sym (get-entries m k)))
        (IsPermutation-filter (tied R total k) _ _ (IsPermutation-sym _ _ h.same)))

    -- the rows of a key are the entry of the key
    hits : map (λ (p : Stored). p.1) (filter has_key h.numbered) ≡ option_to_list (option_map (λ x. (k, x)) (get m k))
    hits = sym (filter-map (tied R total k) (λ (p : Stored). p.1) h.numbered) ∙ entries_hit

    -- if a key has no entry, no row has it
    pub never_tied : get m k ≡ None → list_any (tied R total k) (map (λ (p : Stored). p.1) h.numbered) ≡ true → ⊥
    never_tied none any = let e = sym (none_pass (tied R total k) _ (entries_hit ∙ ap (λ o. option_to_list (option_map (λ x. (k, x)) o)) none)) ∙ any in cc

    -- so are their values
    pub key_values : map (λ (p : Stored). p.1.1) (filter has_key h.numbered) ≡ option_to_list (get m k)
    key_values = sym (map-map (λ (e : K × X). e.1) (λ (p : Stored). p.1) (filter has_key h.numbered)) ∙ ap (map (λ (e : K × X). e.1)) hits ∙ seconds_of k (get m k)

    pub hit_row : (x : X) → get m k ≡ Some x → (i : ℤ) × (filter has_key h.numbered ≡ (i, (k, x)) ∷ [])
    hit_row x has =
        let it = one_from_map (λ (p : Stored). p.1) _ (k, x) (hits ∙ ap (λ o. option_to_list (option_map (λ x. (k, x)) o)) has) in
        (it.0.0, it.1 ∙ ap (λ e. (it.0.0, e) ∷ []) it.2)

    pub no_row : get m k ≡ None → filter has_key h.numbered ≡ []
    no_row has = none_from_map (λ (p : Stored). p.1) _ (hits ∙ ap (λ o. option_to_list (option_map (λ x. (k, x)) o)) has)

    -- a row for a key that had none
    module _ (new : Row) (id : ℤ) (x : X) (alike : ReadAlike new (row (id, (k, x)))) (none : get m k ≡ None) (fresh : is_taken rows new ≡ false) where
      abbrev pub added : List Stored
      added = with_number h.numbered (id, (k, x))

      free : is_new (id, (k, x)) h.numbered
      free = new_number row is new (id, (k, x)) alike rows h.numbered h.are fresh

      pub added_are : AreRows row (put_row new rows) added
      added_are = put_numbered row is new (id, (k, x)) alike rows h.numbered h.are

      pub added_apart : AreApart added
      added_apart = apart_with (id, (k, x)) h.numbered free h.apart

      pub added_same : IsPermutation (map (λ (p : Stored). p.1) added) (entries (insert m k x))
      added_same = IsPermutation-trans _ _ _ (IsPermutation-sym _ _ (IsPermutation-map (λ (q : Stored). q.1) _ _ (with_is_more (id, (k, x)) h.numbered free))) (IsPermutation-trans _ _ _ (IsPermutation-cons (k, x) _ _ h.same)
          (rw (entries-insert total m k x) (subst (λ es. IsPermutation ((k, x) ∷ es) (put R k x (entries m)))
          (untied_each R total k (entries m) (sym (get-entries m k) ∙ none)) (put_permutes R total k antisymmetric x (entries m) (entries_sorted m)))))

      pub adds_row : HoldsTable row (put_row new rows) (insert m k x)
      adds_row = record { numbered = added; are = added_are; apart = added_apart; same = added_same }

    -- another value for a key, under the rowid that it has
    module _ (new : Row) (old next : X) (i : ℤ) (one : filter has_key h.numbered ≡ (i, (k, old)) ∷ []) (alike : ReadAlike new (row (i, (k, next)))) (fresh : is_taken (without_rowid i rows) new ≡ false) where
      abbrev rest : List Stored
      rest = filter (λ (q : Stored). not (has_key q)) h.numbered

      abbrev pub replaced : List Stored
      replaced = with_number rest (i, (k, next))

      left : AreRows row (without_rowid i rows) rest
      left = subst (AreRows row (without_rowid i rows)) (others_fail has_key (i, (k, old)) h.numbered h.apart one) (without_numbered row is i rows h.numbered h.are)

      free_place : is_new (i, (k, next)) rest
      free_place = new_number row is new (i, (k, next)) alike (without_rowid i rows) rest left fresh

      pub replaced_are : AreRows row (put_row new (without_rowid i rows)) replaced
      replaced_are = put_numbered row is new (i, (k, next)) alike (without_rowid i rows) rest left

      pub replaced_apart : AreApart replaced
      replaced_apart = apart_with (i, (k, next)) rest free_place (ascending-filter _ (λ (q : Stored). not (has_key q)) h.numbered h.apart)

      pub replaced_same : IsPermutation (map (λ (p : Stored). p.1) replaced) (entries (insert m k next))
      replaced_same =
          let others = rw (filter-map (λ e. not (tied R total k e)) (λ (q : Stored). q.1) h.numbered) at (IsPermutation-filter (λ e. not (tied R total k e)) _ _ h.same) in
          IsPermutation-trans _ _ _ (IsPermutation-sym _ _ (IsPermutation-map (λ (q : Stored). q.1) _ _ (with_is_more (i, (k, next)) rest free_place))) (IsPermutation-trans _ _ _ (IsPermutation-cons (k, next) _ _ others)
          (rw (entries-insert total m k next) (put_permutes R total k antisymmetric next (entries m) (entries_sorted m))))

      pub replaces_row : HoldsTable row (put_row new (without_rowid i rows)) (insert m k next)
      replaces_row = record { numbered = replaced; are = replaced_are; apart = replaced_apart; same = replaced_same }
