-- A ticket's lines, and then the marks of their bonds, are the lines each with its mark.
use Rattle.std.proofs.Common.{◌≡◌, ℕ, ◌+◌, List, [], ◌∷◌, None, Some, Option, refl, ap, subst, ◌∙◌}
use Rattle.std.specs.FinMap.{FinMap, get, insert}
use Rattle.ee_store_tables.specs.Keyed.{pair_cmp}
use Rattle.ee_store_tables.specs.Rows.{Rows, BondRow, PaidRow, with_paid, marked, marked_as, with_line, with_lines, CanPay, CanPayAll}
use Rattle.ee_store_tables.specs.Inner.Places.{with_places, all_marked, CanPlaceAll}

-- a mark and a line of another table don't meet
marked_beside : (rows : Rows) (k : ℕ × ℕ) (t : ℕ) (paid : FinMap pair_cmp PaidRow) (o : Option BondRow) → record (marked_as rows k t o) { paid = paid } ≡ marked_as (record rows { paid = paid }) k t o
marked_beside rows k t paid None = refl
marked_beside rows k t paid (Some bond) = refl

paid_kept : (rows : Rows) (k : ℕ × ℕ) (t : ℕ) (o : Option BondRow) → (marked_as rows k t o).paid ≡ rows.paid
paid_kept rows k t None = refl
paid_kept rows k t (Some bond) = refl

mark_first : (rows : Rows) (k : ℕ × ℕ) (t place : ℕ) (xs : List PaidRow) → with_places (marked rows k t) t place xs ≡ marked (with_places rows t place xs) k t
mark_first rows k t place [] = refl
mark_first rows k t place (x ∷ xs) =
    ap (λ it. with_places it t (place + 1) xs)
    (ap (λ paid. record (marked rows k t) { paid = insert paid (t, place) x }) (paid_kept rows k t (get rows.bonds k)) ∙ marked_beside rows k t (insert rows.paid (t, place) x) (get rows.bonds k))
    ∙ mark_first (with_paid rows (t, place) x) k t (place + 1) xs

pub line_by_line : (rows : Rows) (t place : ℕ) (xs : List PaidRow) → with_lines rows t place xs ≡ all_marked (with_places rows t place xs) t xs
line_by_line rows t place [] = refl
line_by_line rows t place (x ∷ xs) =
    line_by_line (with_line rows t place x) t (place + 1) xs
    ∙ ap (λ it. all_marked it t xs) (mark_first (with_paid rows (t, place) x) (x.letter, x.number) t (place + 1) xs)

-- what may be placed rests on the lines alone
place_beside : (rows : Rows) (k : ℕ × ℕ) (t u place : ℕ) (xs : List PaidRow) → CanPlaceAll (marked rows k u) t place xs → CanPlaceAll rows t place xs
place_beside rows k t u place [] can = tt
place_beside rows k t u place (x ∷ xs) can = (
  subst (λ paid. CanPay (record rows { paid = paid }) t place x) (paid_kept rows k u (get rows.bonds k)) can.0,
  place_beside (with_paid rows (t, place) x) k t u (place + 1) xs
      (subst (λ it. CanPlaceAll it t (place + 1) xs)
      (ap (λ paid. record (marked rows k u) { paid = insert paid (t, place) x }) (paid_kept rows k u (get rows.bonds k)) ∙ marked_beside rows k u (insert rows.paid (t, place) x) (get rows.bonds k)) can.1),
)

pub can_place : (rows : Rows) (t place : ℕ) (xs : List PaidRow) → CanPayAll rows t place xs → CanPlaceAll rows t place xs
can_place rows t place [] can = tt
can_place rows t place (x ∷ xs) can = (can.0, place_beside (with_paid rows (t, place) x) (x.letter, x.number) t t (place + 1) xs (can_place (with_line rows t place x) t (place + 1) xs can.1))
