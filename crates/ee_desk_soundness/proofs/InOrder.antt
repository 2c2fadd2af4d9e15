-- Lists in order, walked from the front.
use Rattle.std.proofs.Common.{◌≡◌, ◌↔◌, ℕ, ◌+◌, ◌<◌, ◌≤◌, List, [], ◌∷◌, Option, Some, None, length, drop, get_or, arith, ap, ◌∙◌, subst}
use Rattle.std.specs.Option.{IfSome}
use Rattle.std.specs.List.{AllByRecursion}
use Rattle.ee_desk_model.specs.Sound.{open_days}
use Rattle.ee_desk_model.proofs.Lemmas.Maps.{serials_total}
use Rattle.ee_units.specs.Spelling.{SerialNumber}
use Rattle.ee_desk_soundness.specs.Checks.{InOrder, IsBefore}
use Rattle.ee_desk_soundness.specs.Inner.Checks.{IsAfter}
use Rattle.ee_desk_soundness.proofs.Walks.{left_is}

-- the rest is in order, and stands so to the last one before it
abbrev pub Follows : {K : Type 0} → (K → K → Type 0) → Option K → List K → Type 0
Follows R last ks = IfSome last (λ k. AllByRecursion (R k) ks) × InOrder R ks

pub below_on : (a b c : ℕ) → a < b → b < c → a < c
below_on a b c h k = omega (arith, h, k)

pub most_on : (a b c : ℕ) → a ≤ b → b ≤ c → a ≤ c
most_on a b c h k = omega (arith, h, k)

pub before_on : (a b c : SerialNumber) → IsBefore a b → IsBefore b c → IsBefore a c
before_on a b c h k = serials_total.trans a b c h k

module _ {K : Type 0} (R : K → K → Type 0) (trans : (a b c : K) → R a b → R b c → R a c) where
  all_after : (j k : K) (ks : List K) → R j k → AllByRecursion (R k) ks → AllByRecursion (R j) ks
  all_after j k [] r h = tt
  all_after j k (l ∷ ks) r h = (trans j k l r h.0, all_after j k ks r h.1)

  -- one more in order
  pub follows_on : (last : Option K) (k : K) (ks : List K) → IsAfter R last k → Follows R last (k ∷ ks) ↔ Follows R (Some k) ks
  follows_on None k ks h = (λ f. f.1, λ f. (tt, f))
  follows_on (Some j) k ks h = (λ f. f.1, λ f. ((h, all_after j k ks h f.0), f))

  pub ordered_on : {X : Type 0} (f : X → K) (g : List X → List K) → ((x : X) (xs : List X) → g (x ∷ xs) ≡ f x ∷ g xs)
      → (xs : List X) (i : ℕ) (x : X) (last : Option K) (H : Type 0) → i < length xs → x ≡ get_or xs i x → IsAfter R last (f x)
      → (Follows R last (g (drop i xs)) ↔ H) → (Follows R (Some (f x)) (g (drop (i + 1) xs)) ↔ H)
  ordered_on f g e xs i x last H h is after inv =
      let on = follows_on last (f x) (g (drop (i + 1) xs)) after in
      let here = subst (λ ks. Follows R last ks ↔ H) (ap g (left_is xs i x h is) ∙ e x (drop (i + 1) xs)) inv in
      (λ p. here.0 (on.1 p), λ p. on.0 (here.1 p))

-- the open day, after the closed ones
pub open_follows : (R : ℕ → ℕ → Type 0) (last day : Option ℕ) → IfSome day (IsAfter R last) ↔ Follows R last (open_days day)
open_follows R None None = (λ h. (tt, tt), λ h. tt)
open_follows R (Some l) None = (λ h. (tt, tt), λ h. tt)
open_follows R None (Some d) = (λ h. (tt, (tt, tt)), λ h. tt)
open_follows R (Some l) (Some d) = (λ h. ((h, tt), (tt, tt)), λ h. h.0.0)

pub in_order_map : {K : Type 0} (R S : K → K → Type 0) → ((a b : K) → R a b → S a b) → (ks : List K) → InOrder R ks → InOrder S ks
in_order_map {K} R S f [] h = tt
in_order_map {K} R S f (k ∷ ks) h = (all ks h.0, in_order_map R S f ks h.1)
  where
    all : (ls : List K) → AllByRecursion (R k) ls → AllByRecursion (S k) ls
    all [] p = tt
    all (l ∷ ls) p = (f k l p.0, all ls p.1)
