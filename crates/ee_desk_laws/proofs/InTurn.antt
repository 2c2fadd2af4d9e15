-- The lists one after the other are a merge, and so any two merges are alike.
use Rattle.std.proofs.Common.{◌≡◌, ◌==◌, ℕ, zero, suc, ◌+◌, ◌<◌, ◌≤◌, Bool, true, false, cond, List, [], ◌∷◌, ◌++◌, map, length, arith, refl, sym, ap, ◌∙◌, subst, append-nil, length-append}
use Rattle.std.specs.List.{filter, flat_map, sum_by}
use Rattle.std.specs.List.Sorted.{IsPermutation}
use Rattle.std.proofs.lemmas.List.Sorted.{length_permutation}
use Rattle.std.proofs.lemmas.Bool.{eq-eqb, ne_eqb}
use Rattle.std.proofs.lemmas.List.{length-map, map-append}
use Rattle.std.proofs.lemmas.List.Sums.{sum_by-cons}
use Rattle.std.proofs.lemmas.List.Elements.{filter-append}
use Rattle.ee_desk_model.specs.declared.acts.Request.{Request}
use Rattle.ee_desk_model.specs.Refusals.{most_tickets}
use Rattle.ee_desk_model.specs.Repeats.{Content}
use Rattle.ee_desk_laws.specs.Tellers.{Asked, requests, asked_by, list_of, IsMerge, AreTellers, open_tickets, new_lines, Interleaved}
use Rattle.ee_desk_laws.proofs.OneTeller.{blank}
use Rattle.ee_desk_laws.proofs.Merges.{new, same_merge, same_lines, same_replies}
use Rattle.ee_desk_laws.proofs.DayEnd.{closes, flat_blank}

abbrev tag : ℕ → Request → Asked
tag i q = record { teller = i; request = q }

-- the lists of tellers from a place on, one after the other
abbrev in_turn : ℕ → List (List Request) → List Asked
in_turn i [] = []
in_turn i (t ∷ tellers) = map (tag i) t ++ in_turn (i + 1) tellers

asked_append : (j : ℕ) (xs ys : List Asked) → asked_by j (xs ++ ys) ≡ asked_by j xs ++ asked_by j ys
asked_append j xs ys = ap requests (filter-append (λ a. a.teller == j) xs ys) ∙ map-append (λ (a : Asked). a.request) (filter (λ a. a.teller == j) xs) (filter (λ a. a.teller == j) ys)

asked_tagged : (j i : ℕ) (b : Bool) → (i == j) ≡ b → (t : List Request) → asked_by j (map (tag i) t) ≡ cond b t []
asked_tagged j i true e [] = refl
asked_tagged j i false e [] = refl
asked_tagged j i true e (q ∷ t) = ap (λ b. requests (cond b (tag i q ∷ filter (λ a. a.teller == j) (map (tag i) t)) (filter (λ a. a.teller == j) (map (tag i) t)))) e ∙ ap (λ l. q ∷ l) (asked_tagged j i true e t)
asked_tagged j i false e (q ∷ t) = ap (λ b. requests (cond b (tag i q ∷ filter (λ a. a.teller == j) (map (tag i) t)) (filter (λ a. a.teller == j) (map (tag i) t)))) e ∙ asked_tagged j i false e t

asked_below : (j i : ℕ) → j < i → (tellers : List (List Request)) → asked_by j (in_turn i tellers) ≡ []
asked_below j i h [] = refl
asked_below j i h (t ∷ tellers) =
    asked_append j (map (tag i) t) (in_turn (i + 1) tellers)
    ∙ (λ k. asked_tagged j i false (ne_eqb i j (omega arith)) t k ++ asked_below j (i + 1) (omega arith) tellers k)

asked_at : (k i j : ℕ) → j ≡ i + k → (tellers : List (List Request)) → asked_by j (in_turn i tellers) ≡ list_of tellers k
asked_at k i j e [] = refl
asked_at zero i j e (t ∷ tellers) =
    asked_append j (map (tag i) t) (in_turn (i + 1) tellers)
    ∙ (λ n. asked_tagged j i true (eq-eqb i j (omega arith)) t n ++ asked_below j (i + 1) (omega arith) tellers n)
    ∙ append-nil t
asked_at (suc k) i j e (t ∷ tellers) =
    asked_append j (map (tag i) t) (in_turn (i + 1) tellers)
    ∙ (λ n. asked_tagged j i false (ne_eqb i j (omega arith)) t n ++ asked_at k (i + 1) j (omega arith) tellers n)

pub in_turn_is : (tellers : List (List Request)) → IsMerge tellers (in_turn 0 tellers)
in_turn_is tellers teller = asked_at teller 0 teller (omega arith) tellers

length_in_turn : (i : ℕ) (tellers : List (List Request)) → length (in_turn i tellers) ≡ sum_by length tellers
length_in_turn i [] = refl
length_in_turn i (t ∷ tellers) =
    length-append (map (tag i) t) (in_turn (i + 1) tellers) ∙ (λ n. length-map t (tag i) n + length_in_turn (i + 1) tellers n) ∙ sym (sum_by-cons length t tellers)

merge_length : (S : Content) (tellers : List (List Request)) → AreTellers tellers → (merge : List Asked) → IsMerge tellers merge → length merge ≡ sum_by length tellers
merge_length S tellers are merge is =
    sym (length_permutation merge (in_turn 0 tellers) (same_merge S tellers are merge (in_turn 0 tellers) is (in_turn_is tellers))) ∙ length_in_turn 0 tellers

pub interleaved : Interleaved
interleaved start tellers one other are is at few =
    let room : length one + open_tickets start.books ≤ most_tickets = subst (λ n. n + open_tickets start.books ≤ most_tickets) (sym (merge_length start tellers are one is)) few in
    record {
      replies = same_replies start tellers are one other is at room;
      paid =
          subst (λ l. IsPermutation l (new_lines start other)) (flat_blank (new start tellers are one))
          (subst (IsPermutation (flat_map (λ t. t.lines) (map blank (new start tellers are one)))) (flat_blank (new start tellers are other)) (same_lines start tellers are one other is at room));
      closes = closes start tellers are one other is at room;
    }
