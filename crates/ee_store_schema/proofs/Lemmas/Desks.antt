-- Replies of version 1 under desk and number: they are those of the first desk.
use Rattle.std.proofs.Common.{◌≡◌, ◌≢◌, ℕ, List, [], ◌∷◌, map, cond, false, Some, None, refl, sym, ap, subst, ◌∙◌, arith}
use Rattle.std.specs.Prelude.{◌&&◌, T}
use Rattle.std.specs.Ordering.{nat_cmp, is_eq, is_lt, ordering_then}
use Rattle.std.specs.declared.cmp.Ordering.{Ordering}
use Rattle.std.specs.declared.cmp.Ordering.TheVariants.{Less, Equal, Greater}
use Rattle.std.specs.FinMap.{FinMap, get, entries, entries_sorted, get-entries, get-from_sorted}
use Rattle.std.specs.FinMap.Entries.{find, below_all, is_sorted}
use Rattle.std.proofs.lemmas.Bool.Decides.{nat_tests}
use Rattle.ee_store_tables.specs.Keyed.{pair_cmp}
use Rattle.ee_store_tables.specs.Rows.{ReplyRow}
use Rattle.ee_store_schema.specs.Forms.{at_first_desk}

abbrev at_first : ℕ × ReplyRow → (ℕ × ℕ) × ReplyRow
at_first e = ((0, e.0), e.1)

-- they are in order, as their numbers are
same_below : (n : ℕ) (es : List (ℕ × ReplyRow)) → below_all pair_cmp (0, n) (map at_first es) ≡ below_all nat_cmp n es
same_below n [] = refl
same_below n (e ∷ es) = ap (λ b. is_lt (nat_cmp n e.0) && b) (same_below n es)

same_sorted : (es : List (ℕ × ReplyRow)) → is_sorted pair_cmp (map at_first es) ≡ is_sorted nat_cmp es
same_sorted [] = refl
same_sorted (e ∷ es) = ap (λ b. b && is_sorted pair_cmp (map at_first es)) (same_below e.0 es) ∙ ap (λ b. below_all nat_cmp e.0 es && b) (same_sorted es)

same_found : (n : ℕ) (es : List (ℕ × ReplyRow)) → find pair_cmp (0, n) (map at_first es) ≡ find nat_cmp n es
same_found n [] = refl
same_found n (e ∷ es) = ap (cond (is_eq (nat_cmp n e.0)) (Some e.1)) (same_found n es)

apart_first : (a b : Ordering) → is_eq a ≡ false → is_eq (ordering_then a b) ≡ false
apart_first Less b h = refl
apart_first Equal b h = absurd cc
apart_first Greater b h = refl

none_found : (d n : ℕ) → is_eq (nat_cmp d 0) ≡ false → (es : List (ℕ × ReplyRow)) → find pair_cmp (d, n) (map at_first es) ≡ None
none_found d n other [] = refl
none_found d n other (e ∷ es) = ap (λ b. cond b (Some e.1) (find pair_cmp (d, n) (map at_first es))) (apart_first (nat_cmp d 0) (nat_cmp n e.0) other) ∙ none_found d n other es

not_first : (d : ℕ) → d ≢ 0 → is_eq (nat_cmp d 0) ≡ false
not_first d other = grind (arith, nat_tests)

module _ (kept : FinMap nat_cmp ReplyRow) where
  -- they are in order of desk and number
  pub first_desk_sorted : T (is_sorted pair_cmp (map at_first (entries kept)))
  first_desk_sorted = subst T (sym (same_sorted (entries kept))) (entries_sorted kept)

  -- a reply of version 1 has its number at the first desk
  pub first_desk_get : (n : ℕ) → get (at_first_desk kept) (0, n) ≡ get kept n
  first_desk_get n = get-from_sorted pair_cmp (map at_first (entries kept)) (0, n) first_desk_sorted ∙ same_found n (entries kept) ∙ sym (get-entries kept n)

  -- and no other desk has one
  pub other_desk_get : (d n : ℕ) → d ≢ 0 → get (at_first_desk kept) (d, n) ≡ None
  other_desk_get d n other = get-from_sorted pair_cmp (map at_first (entries kept)) (d, n) first_desk_sorted ∙ none_found d n (not_first d other) (entries kept)
