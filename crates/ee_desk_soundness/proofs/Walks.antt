-- Lists that a loop walks.
use Rattle.std.proofs.Common.{◌≡◌, ◌↔◌, ℕ, zero, suc, ◌+◌, ◌<◌, List, [], ◌∷◌, ◌++◌, length, take, drop, get_or, arith, sym, ap, ◌∙◌, subst}
use Rattle.std.specs.List.{AllByRecursion}
use Rattle.std.proofs.lemmas.List.{drop_more, take_more}

module _ {A : Type 0} (xs : List A) (i : ℕ) (x : A) (h : i < length xs) (is : x ≡ get_or xs i x) where
  -- what is left begins with the element of this turn
  pub left_is : drop i xs ≡ x ∷ drop (i + 1) xs
  left_is = drop_more xs i x h ∙ ap (λ y. y ∷ drop (i + 1) xs) (sym is)

  pub taken_is : take (i + 1) xs ≡ take i xs ++ x ∷ []
  taken_is = take_more xs i x h ∙ ap (λ y. take i xs ++ y ∷ []) (sym is)

  pub all_on : (P : A → Type 0) (H : Type 0) → P x → (AllByRecursion P (drop i xs) ↔ H) → (AllByRecursion P (drop (i + 1) xs) ↔ H)
  all_on P H here inv =
      let now = subst (λ ys. AllByRecursion P ys ↔ H) left_is inv in
      (λ p. now.0 (here, p), λ p. (now.1 p).1)

-- what holds of all holds of the element of this turn
pub all_at : {A : Type 0} (P : A → Type 0) (xs : List A) (i : ℕ) (x : A) → AllByRecursion P xs → i < length xs → x ≡ get_or xs i x → P x
all_at P [] i x all h is = absurd (omega (arith, h))
all_at P (y ∷ xs) zero x all h is = subst P (sym is) all.0
all_at P (y ∷ xs) (suc i) x all h is = all_at P xs i x all.1 (omega (arith, h)) is

pub all_taken : {A : Type 0} (P : A → Type 0) (xs : List A) (i : ℕ) → AllByRecursion P xs → AllByRecursion P (take i xs)
all_taken P xs zero all = tt
all_taken P [] (suc i) all = tt
all_taken P (x ∷ xs) (suc i) all = (all.0, all_taken P xs i all.1)
