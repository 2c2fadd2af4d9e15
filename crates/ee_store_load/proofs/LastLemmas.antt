-- The last element of a list, and those before it.
use Rattle.std.proofs.Common.{◌≡◌, List, [], ◌∷◌, ◌++◌, length, length-append, refl, sym, ap, ◌∙◌, arith}
use Rattle.std.proofs.lemmas.List.{nil_from_length}

head_or : {X : Type 0} → X → List X → X
head_or x [] = x
head_or x (y ∷ ys) = y

tail_of : {X : Type 0} → List X → List X
tail_of [] = []
tail_of (x ∷ xs) = xs

-- one list has no more elements than a list of one
none_more : {X : Type 0} (x y : X) (zs : List X) → x ∷ [] ≡ zs ++ y ∷ [] → zs ≡ []
none_more x y zs is = let long = ap length is ∙ length-append zs (y ∷ []) in nil_from_length zs (omega (arith, long))

pub same_ends : {X : Type 0} (xs ys : List X) (x y : X) → xs ++ x ∷ [] ≡ ys ++ y ∷ [] → (xs ≡ ys) × (x ≡ y)
unfolding head_or tail_of
same_ends [] [] x y is = (refl, ap (head_or x) is)
same_ends [] (b ∷ ys) x y is = let none = none_more x y (b ∷ ys) is in absurd (cc)
same_ends (a ∷ xs) [] x y is = let none = none_more y x (a ∷ xs) (sym is) in absurd (cc)
same_ends (a ∷ xs) (b ∷ ys) x y is =
    let rest = same_ends xs ys x y (ap tail_of is) in
    (ap (λ z. z ∷ xs) (ap (head_or a) is) ∙ ap (λ zs. b ∷ zs) rest.0, rest.1)
