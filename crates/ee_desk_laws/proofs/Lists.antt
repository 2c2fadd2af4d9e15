-- Lists: what is found, kept by a test, and stands in them.
use Rattle.std.proofs.Common.{◌≡◌, ◌⊎◌, inl, inr, ℕ, Bool, true, false, cond, ◌||◌, eqb, List, [], ◌∷◌, ◌++◌, map, Option, Some, None, refl, sym, ap, ◌∙◌, subst}
use Rattle.std.specs.Option.{option_map, option_or}
use Rattle.std.specs.List.{AllByRecursion, filter, list_any}
use Rattle.std.proofs.lemmas.Bool.{eq-eqb}
use Rattle.std.proofs.Math.Bool.{or-true}

map_or : {A B : Type 0} (h : A → B) (x y : Option A) → option_map h (option_or x y) ≡ option_or (option_map h x) (option_map h y)
map_or h None y = refl
map_or h (Some x) y = refl

pub map_map : {A B C : Type 0} (g : B → C) (f : A → B) (o : Option A) → option_map g (option_map f o) ≡ option_map (λ x. g (f x)) o
map_map g f None = refl
map_map g f (Some x) = refl

-- two options in place of one another, in front and behind
pub or_alike : {A B : Type 0} (h : A → B) (x y u v : Option A) → option_map h x ≡ option_map h y → option_map h u ≡ option_map h v → option_map h (option_or x u) ≡ option_map h (option_or y v)
or_alike h x y u v e f = map_or h x u ∙ (λ i. option_or (e i) (f i)) ∙ sym (map_or h y v)

abbrev pub In : {A : Type 0} → A → List A → Type 0
In x [] = ⊥
In x (y ∷ ys) = (y ≡ x) ⊎ In x ys

pub all_in : {A : Type 0} (P : A → Type 0) (xs : List A) → ((x : A) → In x xs → P x) → AllByRecursion P xs
all_in P [] h = tt
all_in P (x ∷ xs) h = (h x (inl refl), all_in P xs (λ y i. h y (inr i)))

pub of_all : {A : Type 0} (P : A → Type 0) (x : A) (xs : List A) → AllByRecursion P xs → In x xs → P x
of_all P x [] h i = absurd i
of_all P x (y ∷ ys) h (inl is) = subst P is h.0
of_all P x (y ∷ ys) h (inr i) = of_all P x ys h.1 i

pub any_in : {A : Type 0} (p : A → Bool) (x : A) (xs : List A) → In x xs → p x ≡ true → list_any p xs ≡ true
any_in p x [] i h = absurd i
any_in p x (y ∷ ys) (inl is) h = ap (λ b. b || list_any p ys) (ap p is ∙ h)
any_in p x (y ∷ ys) (inr i) h = ap (λ b. p y || b) (any_in p x ys i h) ∙ or-true (p y)

pub in_map : {A B : Type 0} (f : A → B) (x : A) (xs : List A) → In x xs → In (f x) (map f xs)
in_map f x [] i = absurd i
in_map f x (y ∷ ys) (inl is) = inl (ap f is)
in_map f x (y ∷ ys) (inr i) = inr (in_map f x ys i)

pub in_filter : {A : Type 0} (p : A → Bool) (x : A) (xs : List A) → In x xs → p x ≡ true → In x (filter p xs)
in_filter p x [] i h = absurd i
in_filter p x (y ∷ ys) (inl is) h = subst (In x) (sym (ap (λ b. cond b (y ∷ filter p ys) (filter p ys)) (ap p is ∙ h))) (inl is)
in_filter p x (y ∷ ys) (inr i) h = by_case (p y) (in_filter p x ys i h)
  where
    by_case : (b : Bool) → In x (filter p ys) → In x (cond b (y ∷ filter p ys) (filter p ys))
    by_case true i = inr i
    by_case false i = i

pub in_left : {A : Type 0} (x : A) (xs ys : List A) → In x xs → In x (xs ++ ys)
in_left x [] ys i = absurd i
in_left x (y ∷ xs) ys (inl is) = inl is
in_left x (y ∷ xs) ys (inr i) = inr (in_left x xs ys i)

pub in_right : {A : Type 0} (x : A) (xs ys : List A) → In x ys → In x (xs ++ ys)
in_right x [] ys i = i
in_right x (y ∷ xs) ys i = inr (in_right x xs ys i)

pub eq_self : (n : ℕ) → eqb n n ≡ true
eq_self n = eq-eqb n n refl
