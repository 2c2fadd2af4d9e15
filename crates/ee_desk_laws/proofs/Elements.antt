-- Elements of a list.
use Rattle.std.proofs.Common.{zero, suc, List, [], ◌∷◌, arith, refl, subst}
use Rattle.std.specs.List.{AllByRecursion, Contains}

-- an element of a list if all have a property
pub contained : {A : Type 0} (P : A → Type 0) (xs : List A) (x : A) → AllByRecursion P xs → Contains xs x → P x
contained P [] x h c = absurd (omega (arith, c.1))
contained P (y ∷ ys) x h (zero, below, is) = subst P is h.0
contained P (y ∷ ys) x h (suc k, below, is) = contained P ys x h.1 (k, omega (arith, below), is)

pub in_tail : {A : Type 0} (y : A) (xs : List A) (x : A) → Contains xs x → Contains (y ∷ xs) x
in_tail y xs x (k, below, is) = (suc k, omega (arith, below), is)

pub at_head : {A : Type 0} (x : A) (xs : List A) → Contains (x ∷ xs) x
at_head x xs = (0, omega arith, refl)
