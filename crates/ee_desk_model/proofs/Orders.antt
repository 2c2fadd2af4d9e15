-- Lists in order, and what holds of all their elements.
use Rattle.std.proofs.Common.{◌≡◌, ℕ, ◌<◌, ◌≤◌, eqb, Bool, true, false, cond, ◌||◌, List, [], ◌∷◌, ◌++◌, map, true≢false, arith, refl, sym, ap}
use Rattle.std.specs.List.{AllByRecursion, list_any, filter}
use Rattle.std.proofs.lemmas.Bool.{eqb-true, false_from_ne_true}
use Rattle.std.proofs.lemmas.List.Elements.{filter_passes, recursion_from_All}
use Rattle.ee_desk_model.specs.Lists.{Rising, NeverFalling}
use Rattle.ee_desk_model.proofs.Maps.{all_map, or_there}

pub all_append : {A : Type 0} (P : A → Type 0) (xs ys : List A) → AllByRecursion P xs → AllByRecursion P ys → AllByRecursion P (xs ++ ys)
all_append P [] ys h k = k
all_append P (x ∷ xs) ys h k = (h.0, all_append P xs ys h.1 k)

pub all_filter : {A : Type 0} (P : A → Type 0) (p : A → Bool) (xs : List A) → AllByRecursion P xs → AllByRecursion P (filter p xs)
all_filter P p [] h = tt
all_filter {A} P p (x ∷ xs) h = keep (p x) (all_filter P p xs h.1)
  where
    keep : (b : Bool) → AllByRecursion P (filter p xs) → AllByRecursion P (cond b (x ∷ filter p xs) (filter p xs))
    keep true k = (h.0, k)
    keep false k = k

pub all_passed : {A : Type 0} (p : A → Bool) (xs : List A) → AllByRecursion (λ x. p x ≡ true) (filter p xs)
all_passed p xs = recursion_from_All (λ x. p x ≡ true) (filter p xs) (filter_passes p xs)

-- one of the elements that a test finds has what all have
pub any_has : {A : Type 0} (P : A → Type 0) (p : A → Bool) (C : Type 0) → ((x : A) → P x → p x ≡ true → C) → (xs : List A) → AllByRecursion P xs → list_any p xs ≡ true → C
any_has P p C f [] h e = absurd (true≢false (sym e))
any_has P p C f (x ∷ xs) h e = by_case (any_has P p C f xs h.1) (p x) refl e
  where
    by_case : (list_any p xs ≡ true → C) → (b : Bool) → p x ≡ b → (b || list_any p xs) ≡ true → C
    by_case later true is e = f x h.0 is
    by_case later false is e = later e

pub any_left : {A : Type 0} (p : A → Bool) (xs ys : List A) → list_any p xs ≡ true → list_any p (xs ++ ys) ≡ true
any_left p [] ys e = absurd (true≢false (sym e))
any_left p (x ∷ xs) ys e = by_case (any_left p xs ys) (p x) e
  where
    by_case : (list_any p xs ≡ true → list_any p (xs ++ ys) ≡ true) → (b : Bool) → (b || list_any p xs) ≡ true → (b || list_any p (xs ++ ys)) ≡ true
    by_case later true e = refl
    by_case later false e = later e

pub any_last : {A : Type 0} (p : A → Bool) (xs : List A) (y : A) → p y ≡ true → list_any p (xs ++ y ∷ []) ≡ true
any_last p [] y e = ap (λ b. b || false) e
any_last p (x ∷ xs) y e = or_there (p x) (list_any p (xs ++ y ∷ [])) (any_last p xs y e)

pub rising_push : (ds : List ℕ) (d : ℕ) → Rising ds → AllByRecursion (λ x. x < d) ds → Rising (ds ++ d ∷ [])
rising_push [] d h k = (tt, tt)
rising_push (x ∷ ds) d h k = (all_append (λ y. x < y) ds (d ∷ []) h.0 (k.0, tt), rising_push ds d h.1 k.1)

head_of : {A : Type 0} (P : A → Type 0) (xs : List A) (y : A) → AllByRecursion P (xs ++ y ∷ []) → AllByRecursion P xs × P y
head_of P [] y h = (tt, h.0)
head_of P (x ∷ xs) y h = let r = head_of P xs y h.1 in ((h.0, r.0), r.1)

-- each is below the last
pub rising_below : (ds : List ℕ) (d : ℕ) → Rising (ds ++ d ∷ []) → AllByRecursion (λ x. x < d) ds
rising_below [] d h = tt
rising_below (x ∷ ds) d h = ((head_of (λ y. x < y) ds d h.0).1, rising_below ds d h.1)

pub rising_most : (ds : List ℕ) (d : ℕ) → Rising (ds ++ d ∷ []) → AllByRecursion (λ x. x ≤ d) (ds ++ d ∷ [])
rising_most ds d h = all_append (λ x. x ≤ d) ds (d ∷ []) (all_map (λ x. x < d) (λ x. x ≤ d) (λ x e. omega (arith, e)) ds (rising_below ds d h)) (omega arith, tt)

pub never_falling_push : (ds : List ℕ) (d : ℕ) → NeverFalling ds → AllByRecursion (λ x. x ≤ d) ds → NeverFalling (ds ++ d ∷ [])
never_falling_push [] d h k = (tt, tt)
never_falling_push (x ∷ ds) d h k = (all_append (λ y. x ≤ y) ds (d ∷ []) h.0 (k.0, tt), never_falling_push ds d h.1 k.1)

pub all_mapped : {A B : Type 0} (P : B → Type 0) (f : A → B) (xs : List A) → AllByRecursion (λ x. P (f x)) xs → AllByRecursion P (map f xs)
all_mapped P f [] h = tt
all_mapped P f (x ∷ xs) h = (h.0, all_mapped P f xs h.1)

pub all_unmapped : {A B : Type 0} (P : B → Type 0) (f : A → B) (xs : List A) → AllByRecursion P (map f xs) → AllByRecursion (λ x. P (f x)) xs
all_unmapped P f [] h = tt
all_unmapped P f (x ∷ xs) h = (h.0, all_unmapped P f xs h.1)

pub not_below : (x y : ℕ) → x < y → eqb y x ≡ false
not_below x y h = false_from_ne_true (eqb y x) (λ e. let s = eqb-true y x e in absurd (omega (arith, s)))
