-- How much room a write leaves.
use Rattle.std.proofs.Common.{◌≡◌, ◌≢◌, ◌⊎◌, inl, inr, ℕ, ◌+◌, ◌<◌, ◌≤◌, ◌^◌, ℤ, pos, ◌+ℤ◌, List, [], ◌∷◌, fold, Bool, true, false, not, cond, IsTrue, refl, sym, ap, subst, ◌∙◌, arith, Ordering, Less, Equal, Greater, nat_cmp}
use Rattle.std.specs.Prelude.{◌||◌}
use Rattle.std.specs.List.{list_any}
use Rattle.std.specs.Ordering.{match_ordering, is_eq}
use Rattle.std.proofs.lemmas.Bool.Decides.{nat_tests}
use Rattle.std.proofs.lemmas.Bool.{cases_Bool}
use Rattle.std.proofs.lemmas.Int.{ints}
use Rattle.sqlite.specs.declared.types.Value.TheVariants.{Int}
use Rattle.sqlite.specs.Order.{Row, value_cmp}
use Rattle.sqlite.specs.Tree.{rowid, has_rowid, put_row, without_rowid}
use Rattle.sqlite.specs.Effect.{IsDatabase}
use Rattle.sqlite.specs.State.{State}
use Rattle.sqlite_rules.specs.Edit.{id_in, next_rowid, is_taken}
use Rattle.sqlite_value.proofs.OrderLemmas.{value_cmp-Int}
use Rattle.ee_store_tables.specs.Rows.{Rises, HasRoom}
use Rattle.ee_store_tables.proofs.SelectLemmas.{cmp_pos}
use Rattle.ee_store_tables.proofs.WriteLemmas.{Same}

-- if less is asked for, there is as much room
pub rises_less : (low m n : ℕ) → m ≤ n → (rows : List Row) → Rises low n rows → Rises low m rows
rises_less low m n less [] h = omega (arith, less, h)
rises_less low m n less (r ∷ rows) h = (h.0, h.1, h.2, rises_less (h.0 + 1) m n less rows h.3)

pub room_less : (s : State) (m n : ℕ) → m ≤ n → HasRoom n s → HasRoom m s
room_less s m n less room is_open = let it = room is_open in (it.0, (rises_less 1 m n less _ it.1.0, rises_less 1 m n less _ it.1.1, rises_less 1 m n less _ it.1.2))

-- a write of another table leaves the room
pub room_beside : (old new : State) (tree n : ℕ) → 2 ≢ tree → 7 ≢ tree → 13 ≢ tree → Same tree old.now.trees new.now.trees → IsDatabase new.now → IsTrue old.is_open → HasRoom n old → HasRoom n new
room_beside old new tree n not_bonds not_lines not_answers same sound was_open room _ =
    let it = (room was_open).1 in (sound, (subst (Rises 1 n) (sym (same.1.1.0 not_bonds)) it.0, subst (Rises 1 n) (sym (same.1.1.1.1.0 not_lines)) it.1, subst (Rises 1 n) (sym (same.1.1.1.1.1.1.1.0 not_answers)) it.2))

-- ---- a row above the last

above_all : (m n : ℕ) → m < n → nat_cmp m n ≡ Less
above_all m n low = grind (arith, nat_tests)

below_all : (m n : ℕ) → m < n → nat_cmp n m ≡ Greater
below_all m n low = grind (arith, nat_tests)

-- the next rowid, and what may be put in under it
pub record HasNext (low n : ℕ) (rows : List Row) : Type 0 where
  pub top : ℕ
  pub next : fold (λ _ r. id_in (rowid r) +ℤ pos 1) (pos low) rows ≡ pos top
  pub above : low ≤ top
  pub room : top + n ≤ 2 ^ 63
  pub fresh : (row : Row) → rowid row ≡ Int (pos top) → is_taken rows row ≡ false
  pub put : (row : Row) → rowid row ≡ Int (pos top) → (m : ℕ) → m + 1 ≤ n → Rises low m (put_row row rows)

pub has_next : (low n : ℕ) (rows : List Row) → Rises low n rows → HasNext low n rows
has_next low n [] h = record { top = low; next = refl; above = omega arith; room = h; fresh = λ row is. refl; put = λ row is m less. (low, is, omega arith, omega (arith, less, h)) }
has_next low n (r ∷ rows) h =
    let rest = has_next (h.0 + 1) n rows h.3 in
    let less : (row : Row) → rowid row ≡ Int (pos rest.top) → value_cmp (rowid r) (rowid row) ≡ Less = λ row is. rw (h.1, is) (cmp_pos h.0 rest.top ∙ above_all h.0 rest.top (omega (arith, rest.above))) in
    record {
      top = rest.top;
      next = ap (λ v. fold (λ _ r. id_in (rowid r) +ℤ pos 1) (id_in v +ℤ pos 1) rows) h.1 ∙ rest.next;
      above = omega (arith, h.2, rest.above);
      room = rest.room;
      fresh = λ row is. ap (λ o. is_eq o || is_taken rows row) (less row is) ∙ rest.fresh row is;
      put = λ row is m few. subst (λ o. Rises low m (match_ordering o (r ∷ put_row row rows) (row ∷ rows) (row ∷ r ∷ rows))) (sym (less row is)) (h.0, h.1, h.2, rest.put row is m few);
    }

-- the row that is put into a table has the next rowid
pub room_put : (n : ℕ) (rows : List Row) (row : Row) → rowid row ≡ Int (next_rowid rows) → Rises 1 (n + 1) rows → Rises 1 n (put_row row rows)
room_put n rows row is room = let it = has_next 1 (n + 1) rows room in it.put row (is ∙ ap Int it.next) n (omega arith)

-- ---- a row in place of one

apart_from : (low n i : ℕ) → i < low → (rows : List Row) → Rises low n rows → list_any (has_rowid (pos i)) rows ≡ false
apart_from low n i below [] h = refl
apart_from low n i below (r ∷ rows) h =
    ap (λ v. is_eq (value_cmp v (Int (pos i))) || list_any (has_rowid (pos i)) rows) h.1 ∙ ap (λ o. is_eq o || list_any (has_rowid (pos i)) rows) (cmp_pos h.0 i ∙ below_all i h.0 (omega (arith, h.2, below)))
    ∙ apart_from (h.0 + 1) n i (omega (arith, h.2, below)) rows h.3

none_taken : (i : ℤ) (rows : List Row) → list_any (has_rowid i) rows ≡ false → without_rowid i rows ≡ rows
none_taken i [] h = refl
none_taken i (r ∷ rows) h = elim (cases_Bool (has_rowid i r)) [
  | inl hit ↦ absurd (let a = rw hit at h in cc)
  | inr miss ↦ let rest = rw miss at h in rw miss (ap (λ rs. r ∷ rs) (none_taken i rows rest))
]

put_first : (low n i : ℕ) → i < low → (new : Row) → rowid new ≡ Int (pos i) → (rows : List Row) → Rises low n rows → put_row new rows ≡ new ∷ rows
put_first low n i below new is [] h = refl
put_first low n i below new is (r ∷ rows) h =
    let greater : value_cmp (rowid r) (rowid new) ≡ Greater = rw (h.1, is) (cmp_pos h.0 i ∙ below_all i h.0 (omega (arith, h.2, below))) in
    ap (λ o. match_ordering o (r ∷ put_row new rows) (new ∷ rows) (new ∷ r ∷ rows)) greater

-- a rowid is a whole number, if there is one
pub whole_rowid : (low n : ℕ) (i : ℤ) (rows : List Row) → Rises low n rows → list_any (has_rowid i) rows ≡ true → (j : ℕ) × (i ≡ pos j) × (j < 2 ^ 63)
whole_rowid low n i [] h hit = absurd cc
whole_rowid low n i (r ∷ rows) h hit = elim (cases_Bool (has_rowid i r)) [
  | inl here ↦ let it = has_next (h.0 + 1) n rows h.3 in (h.0, same i h.0 (ap (λ v. is_eq (value_cmp v (Int i))) (sym h.1) ∙ here), omega (arith, it.above, it.room))
  | inr miss ↦ let rest = rw miss at hit in whole_rowid (h.0 + 1) n i rows h.3 rest
]
  where
    same : (i : ℤ) (j : ℕ) → is_eq (value_cmp (Int (pos j)) (Int i)) ≡ true → i ≡ pos j
    same i j e = let k = sym (ap is_eq (value_cmp-Int (pos j) i)) ∙ e in grind (arith, ints)

-- a row and those after it, if it is kept or dropped
abbrev left : ℤ → Row → List Row → Bool → List Row
left i r rows b = cond (not b) (r ∷ without_rowid i rows) (without_rowid i rows)

rises_at : (low n i : ℕ) (new : Row) → rowid new ≡ Int (pos i) → (rows : List Row) → Rises low n rows → list_any (has_rowid (pos i)) rows ≡ true → Rises low n (put_row new (without_rowid (pos i) rows))
rises_at low n i new is [] h hit = absurd cc
rises_at low n i new is (r ∷ rows) h hit = go (rises_at (h.0 + 1) n i new is rows h.3) (nat_cmp h.0 i) refl
  where
    at : value_cmp (rowid r) (Int (pos i)) ≡ nat_cmp h.0 i
    at = ap (λ v. value_cmp v (Int (pos i))) h.1 ∙ cmp_pos h.0 i

    go : (list_any (has_rowid (pos i)) rows ≡ true → Rises (h.0 + 1) n (put_row new (without_rowid (pos i) rows))) → (o : Ordering) → nat_cmp h.0 i ≡ o → Rises low n (put_row new (without_rowid (pos i) (r ∷ rows)))
    go more Less o =
        let miss : has_rowid (pos i) r ≡ false = ap is_eq (at ∙ o) in
        let later : list_any (has_rowid (pos i)) rows ≡ true = ap (λ b. b || list_any (has_rowid (pos i)) rows) (sym miss) ∙ hit in
        subst (λ b. Rises low n (put_row new (left (pos i) r rows b))) (sym miss)
        (subst (λ o. Rises low n (match_ordering o (r ∷ put_row new (without_rowid (pos i) rows)) (new ∷ without_rowid (pos i) rows) (new ∷ r ∷ without_rowid (pos i) rows))) (sym (ap (value_cmp (rowid r)) is ∙ at ∙ o))
        (h.0, h.1, h.2, more later))
    go more Equal o =
        let here : has_rowid (pos i) r ≡ true = ap is_eq (at ∙ o) in
        let same : h.0 ≡ i = grind (arith, nat_tests) in
        let below : i < h.0 + 1 = omega (arith, same) in
        subst (λ b. Rises low n (put_row new (left (pos i) r rows b))) (sym here)
        (subst (λ rs. Rises low n (put_row new rs)) (sym (none_taken (pos i) rows (apart_from (h.0 + 1) n i below rows h.3)))
        (subst (Rises low n) (sym (put_first (h.0 + 1) n i below new is rows h.3)) (i, is, omega (arith, same, h.2), subst (λ j. Rises (j + 1) n rows) same h.3)))
    go more Greater o =
        let miss : has_rowid (pos i) r ≡ false = ap is_eq (at ∙ o) in
        let below : i < h.0 + 1 = grind (arith, nat_tests) in
        absurd (let e = sym hit ∙ ap (λ b. b || list_any (has_rowid (pos i)) rows) miss ∙ apart_from (h.0 + 1) n i below rows h.3 in cc)

-- another row under a rowid that is there
pub rises_again : (n : ℕ) (i : ℤ) (new : Row) → rowid new ≡ Int i → (rows : List Row) → Rises 1 n rows → list_any (has_rowid i) rows ≡ true → Rises 1 n (put_row new (without_rowid i rows))
rises_again n i new is rows h hit =
    let it = whole_rowid 1 n i rows h hit in
    subst (λ i. Rises 1 n (put_row new (without_rowid i rows))) (sym it.1) (rises_at 1 n it.0 new (is ∙ ap Int it.1) rows h (subst (λ i. list_any (has_rowid i) rows ≡ true) it.1 hit))

-- ---- the tables whose rowids rise

pub room_paid : (old new : State) (n : ℕ) (row : Row) → rowid row ≡ Int (next_rowid (old.now.trees 7)) → Same 7 old.now.trees new.now.trees → new.now.trees 7 ≡ put_row row (old.now.trees 7) → IsDatabase new.now → IsTrue old.is_open
    → HasRoom (n + 1) old → HasRoom n new
room_paid old new n row is same put sound was_open room _ =
    let it = (room was_open).1 in
    (sound, (subst (Rises 1 n) (sym (same.1.1.0 (λ e. omega (arith, e)))) (rises_less 1 n (n + 1) (omega arith) _ it.0), subst (Rises 1 n) (sym put) (room_put n (old.now.trees 7) row is it.1), subst (Rises 1 n) (sym (same.1.1.1.1.1.1.1.0 (λ e. omega (arith, e)))) (rises_less 1 n (n + 1) (omega arith) _ it.2)))

pub room_answer : (old new : State) (n : ℕ) (row : Row) → rowid row ≡ Int (next_rowid (old.now.trees 13)) → Same 13 old.now.trees new.now.trees → new.now.trees 13 ≡ put_row row (old.now.trees 13) → IsDatabase new.now → IsTrue old.is_open
    → HasRoom (n + 1) old → HasRoom n new
room_answer old new n row is same put sound was_open room _ =
    let it = (room was_open).1 in
    (sound, (subst (Rises 1 n) (sym (same.1.1.0 (λ e. omega (arith, e)))) (rises_less 1 n (n + 1) (omega arith) _ it.0), subst (Rises 1 n) (sym (same.1.1.1.1.0 (λ e. omega (arith, e)))) (rises_less 1 n (n + 1) (omega arith) _ it.1), subst (Rises 1 n) (sym put) (room_put n (old.now.trees 13) row is it.2)))

pub room_bond : (old new : State) (n : ℕ) (row : Row) → rowid row ≡ Int (next_rowid (old.now.trees 2)) → Same 2 old.now.trees new.now.trees
    → (new.now.trees 2 ≡ old.now.trees 2) ⊎ (new.now.trees 2 ≡ put_row row (old.now.trees 2)) → IsDatabase new.now → IsTrue old.is_open → HasRoom (n + 1) old → HasRoom n new
room_bond old new n row is same put sound was_open room _ =
    let it = (room was_open).1 in
    let of_bonds : Rises 1 n (new.now.trees 2) = elim put [
      | inl kept ↦ subst (Rises 1 n) (sym kept) (rises_less 1 n (n + 1) (omega arith) _ it.0)
      | inr added ↦ subst (Rises 1 n) (sym added) (room_put n (old.now.trees 2) row is it.0)
    ] in
    (sound, (of_bonds, subst (Rises 1 n) (sym (same.1.1.1.1.0 (λ e. omega (arith, e)))) (rises_less 1 n (n + 1) (omega arith) _ it.1), subst (Rises 1 n) (sym (same.1.1.1.1.1.1.1.0 (λ e. omega (arith, e)))) (rises_less 1 n (n + 1) (omega arith) _ it.2)))

pub room_marked : (old new : State) (n : ℕ) → Same 2 old.now.trees new.now.trees → IsDatabase new.now → ((n : ℕ) → Rises 1 n (old.now.trees 2) → Rises 1 n (new.now.trees 2)) → IsTrue old.is_open → HasRoom n old → HasRoom n new
room_marked old new n same sound keeps was_open room _ =
    let it = (room was_open).1 in (sound, (keeps n it.0, subst (Rises 1 n) (sym (same.1.1.1.1.0 (λ e. omega (arith, e)))) it.1, subst (Rises 1 n) (sym (same.1.1.1.1.1.1.1.0 (λ e. omega (arith, e)))) it.2))
