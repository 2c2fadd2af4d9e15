-- Counts, and lists in which something stands.
use Rattle.std.proofs.Common.{◌≡◌, zero, suc, ◌≤◌, Bool, true, false, cond, ◌||◌, List, [], ◌∷◌, length, Some, true≢false, arith, refl, sym, ap, ◌∙◌, subst}
use Rattle.std.specs.List.{AllByRecursion, Contains, count_by, filter, list_any, find}
use Rattle.std.proofs.lemmas.List.Sums.{length-filter}
use Rattle.std.proofs.Math.Bool.{or-true}
use Rattle.std.specs.FinMap as finite
use Rattle.ee_desk_model.specs.declared.acts.Request.{Request}
use Rattle.ee_desk_model.specs.Numbers.{RequestKey, same_number, number_of}
use Rattle.ee_desk_model.specs.Repeats.{Content, firsts, once}

-- those that pass one test pass another, so there are no more of them
fewer : {A : Type 0} (p r : A → Bool) (xs : List A) → AllByRecursion (λ x. p x ≡ true → r x ≡ true) xs → length (filter p xs) ≤ length (filter r xs)
fewer p r [] h = omega arith
fewer p r (x ∷ xs) h = by_case (p x) (r x) h.0 (fewer p r xs h.1)
  where
    by_case : (b c : Bool) → (b ≡ true → c ≡ true) → length (filter p xs) ≤ length (filter r xs)
        → length (cond b (x ∷ filter p xs) (filter p xs)) ≤ length (cond c (x ∷ filter r xs) (filter r xs))
    by_case true true i h = omega (arith, h)
    by_case true false i h = absurd (true≢false (sym (i refl)))
    by_case false true i h = omega (arith, h)
    by_case false false i h = h

pub count_by_fewer : {A : Type 0} (p r : A → Bool) (xs : List A) → AllByRecursion (λ x. p x ≡ true → r x ≡ true) xs → count_by p xs ≤ count_by r xs
count_by_fewer p r xs h = subst (λ k. k ≤ count_by r xs) (length-filter p xs) (subst (λ k. length (filter p xs) ≤ k) (length-filter r xs) (fewer p r xs h))

-- none passes
none_passes : {A : Type 0} (p : A → Bool) (xs : List A) → AllByRecursion (λ x. p x ≡ false) xs → length (filter p xs) ≡ 0
none_passes p [] h = refl
none_passes p (x ∷ xs) h = ap (λ b. length (cond b (x ∷ filter p xs) (filter p xs))) h.0 ∙ none_passes p xs h.1

pub count_by_none : {A : Type 0} (p : A → Bool) (xs : List A) → AllByRecursion (λ x. p x ≡ false) xs → count_by p xs ≡ 0
count_by_none p xs h = sym (length-filter p xs) ∙ none_passes p xs h

-- all have what each that stands there has
pub all_by_each : {A : Type 0} (P : A → Type 0) (xs : List A) → ((x : A) → Contains xs x → P x) → AllByRecursion P xs
all_by_each P [] h = tt
all_by_each P (x ∷ xs) h = (h x (0, omega arith, refl), all_by_each P xs (λ y (k, below, is). h y (suc k, omega (arith, below), is)))

-- what passes a test that something in the list passes
pub any_is : {A : Type 0} (p : A → Bool) (xs : List A) → list_any p xs ≡ true → (x : A) × Contains xs x × (p x ≡ true)
any_is p [] h = absurd (true≢false (sym h))
any_is {A = A} p (x ∷ xs) h = by_case (p x) refl (any_is p xs)
  where
    by_case : (b : Bool) → p x ≡ b → (list_any p xs ≡ true → (y : A) × Contains xs y × (p y ≡ true)) → (y : A) × Contains (x ∷ xs) y × (p y ≡ true)
    by_case true is rest = (x, (0, omega arith, refl), is)
    by_case false is rest =
        let (y, (k, below, at), passes) = rest (sym (ap (λ b. b || list_any p xs) is) ∙ h) in (y, (suc k, omega (arith, below), at), passes)

pub any_of : {A : Type 0} (p : A → Bool) (xs : List A) (x : A) → Contains xs x → p x ≡ true → list_any p xs ≡ true
any_of p [] x c h = absurd (omega (arith, c.1))
any_of p (y ∷ xs) x (zero, below, is) h = ap (λ b. b || list_any p xs) (ap p is ∙ h)
any_of p (y ∷ xs) x (suc k, below, is) h = ap (λ b. p y || b) (any_of p xs x (k, omega (arith, below), is) h) ∙ or-true (p y)

-- the first that passes, if one does
pub found : {A : Type 0} (p : A → Bool) (xs : List A) → list_any p xs ≡ true → (x : A) × Contains xs x × (p x ≡ true) × (find p xs ≡ Some x)
found p [] h = absurd (true≢false (sym h))
found {A = A} p (x ∷ xs) h = by_case (p x) refl (found p xs)
  where
    by_case : (b : Bool) → p x ≡ b → (list_any p xs ≡ true → (y : A) × Contains xs y × (p y ≡ true) × (find p xs ≡ Some y))
        → (y : A) × Contains (x ∷ xs) y × (p y ≡ true) × (find p (x ∷ xs) ≡ Some y)
    by_case true is rest = (x, (0, omega arith, refl), is, ap (λ b. cond b (Some x) (find p xs)) is)
    by_case false is rest =
        let (y, (k, below, at), passes, first) = rest (sym (ap (λ b. b || list_any p xs) is) ∙ h) in
        (y, (suc k, omega (arith, below), at), passes, ap (λ b. cond b (Some x) (find p xs)) is ∙ first)

-- ---- requests without repeats
all_firsts : (P : Request → Type 0) (known : RequestKey → Bool) (all : List Request) → AllByRecursion P all → AllByRecursion P (firsts known all)
all_firsts P known [] h = tt
all_firsts P known (q ∷ all) h = by_case (known (number_of q)) (all_firsts P known all h.1) (all_firsts P (λ m. known m || same_number m (number_of q)) all h.1)
  where
    by_case : (b : Bool) → AllByRecursion P (firsts known all) → AllByRecursion P (firsts (λ m. known m || same_number m (number_of q)) all)
        → AllByRecursion P (cond b (firsts known all) (q ∷ firsts (λ m. known m || same_number m (number_of q)) all))
    by_case true same more = same
    by_case false same more = (h.0, more)

-- what all requests have, those without repeats have
pub all_once : (P : Request → Type 0) (start : Content) (all : List Request) → AllByRecursion P all → AllByRecursion P (once start all)
all_once P start all h = all_firsts P (λ n. finite.contains_key start.kept n) all h

or_false : (b c : Bool) → (b || c) ≡ false → b ≡ false
or_false true c h = absurd (true≢false h)
or_false false c h = refl

all_new : (known less : RequestKey → Bool) (all : List Request) → ((n : RequestKey) → known n ≡ false → less n ≡ false)
    → AllByRecursion (λ q. less (number_of q) ≡ false) (firsts known all)
all_new known less [] h = tt
all_new known less (q ∷ all) h =
    by_case (known (number_of q)) refl (all_new known less all h)
    (all_new (λ m. known m || same_number m (number_of q)) less all (λ n new. h n (or_false (known n) (same_number n (number_of q)) new)))
  where
    by_case : (b : Bool) → known (number_of q) ≡ b → AllByRecursion (λ r. less (number_of r) ≡ false) (firsts known all)
        → AllByRecursion (λ r. less (number_of r) ≡ false) (firsts (λ m. known m || same_number m (number_of q)) all)
        → AllByRecursion (λ r. less (number_of r) ≡ false) (cond b (firsts known all) (q ∷ firsts (λ m. known m || same_number m (number_of q)) all))
    by_case true is same more = same
    by_case false is same more = (h (number_of q) is, more)

-- none of them has a number that the start keeps
pub all_once_new : (start : Content) (all : List Request) → AllByRecursion (λ q. finite.contains_key start.kept (number_of q) ≡ false) (once start all)
all_once_new start all = all_new (λ n. finite.contains_key start.kept n) (λ n. finite.contains_key start.kept n) all (λ n h. h)
