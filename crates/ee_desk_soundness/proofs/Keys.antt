-- Lists whose elements have serial numbers.
use Rattle.std.proofs.Common.{◌≡◌, Bool, true, false, true≢false, cond, ◌||◌, List, [], ◌∷◌, ◌++◌, map, Some, None, refl, sym, ap, ◌∙◌, subst}
use Rattle.std.specs.Prelude.{⊤}
use Rattle.std.specs.Option.{is_some}
use Rattle.std.specs.List.{AllByRecursion, IsDistinct, find, list_any}
use Rattle.std.specs.Cmp.{IsEquivalence}
use Rattle.std.proofs.lemmas.Option.{same_Some}
use Rattle.std.proofs.lemmas.Map.Keys.{IsDistinct-cons, IsDistinct-head, IsDistinct-tail}
use Rattle.ee_units.specs.Spelling.{SerialNumber}
use Rattle.ee_desk_model.specs.Serials.{same_serial}
use Rattle.ee_desk_model.proofs.Lemmas.Maps.{same_serial-self, same_serial-swap, same_serial-is, all_weaker, all_both, all_mapped, all_unmapped}

pub serial_laws : IsEquivalence same_serial
serial_laws = record { refl = same_serial-self; symm = same_serial-swap; congr = λ x y z same. ap (λ (s : SerialNumber). same_serial s z) (same_serial-is x y same) }

-- ---- truth values
pub same_truth : (a b : Bool) → (a ≡ true → b ≡ true) → (b ≡ true → a ≡ true) → a ≡ b
same_truth true b on back = sym (on refl)
same_truth false true on back = back refl
same_truth false false on back = refl

or_true : (a b : Bool) → b ≡ true → (a || b) ≡ true
or_true true b e = refl
or_true false b e = e

-- ---- what a test finds first
module _ {A : Type 0} (p : A → Bool) where
  -- what all have, the one that is found has
  pub found_all : (P : A → Type 0) (xs : List A) (x : A) → AllByRecursion P xs → find p xs ≡ Some x → P x
  found_all P [] x all e = absurd (cc)
  found_all P (y ∷ xs) x all e = by_case (p y) (found_all P xs x all.1) e
    where
      by_case : (b : Bool) → (find p xs ≡ Some x → P x) → cond b (Some y) (find p xs) ≡ Some x → P x
      by_case true later e = subst P (same_Some y x e) all.0
      by_case false later e = later e

  -- it passes the test
  pub found_passes : (xs : List A) (x : A) → find p xs ≡ Some x → p x ≡ true
  found_passes [] x e = absurd (cc)
  found_passes (y ∷ xs) x e = by_case (p y) refl (found_passes xs x) e
    where
      by_case : (b : Bool) → p y ≡ b → (find p xs ≡ Some x → p x ≡ true) → cond b (Some y) (find p xs) ≡ Some x → p x ≡ true
      by_case true same later e = ap p (sym (same_Some y x e)) ∙ same
      by_case false same later e = later e

  pub any_found : (xs : List A) → list_any p xs ≡ is_some (find p xs)
  any_found [] = refl
  any_found (y ∷ xs) = by_case (p y) (any_found xs)
    where
      by_case : (b : Bool) → list_any p xs ≡ is_some (find p xs) → (b || list_any p xs) ≡ is_some (cond b (Some y) (find p xs))
      by_case true e = refl
      by_case false e = e

-- what is found of a list's image
module _ {A B : Type 0} (p : A → Bool) (f : B → A) where
  pub find_mapped : (xs : List B) (x : B) → find (λ (y : B). p (f y)) xs ≡ Some x → find p (map f xs) ≡ Some (f x)
  find_mapped [] x e = absurd (cc)
  find_mapped (y ∷ xs) x e = by_case (p (f y)) (find_mapped xs x) e
    where
      by_case : (b : Bool) → (find (λ (y : B). p (f y)) xs ≡ Some x → find p (map f xs) ≡ Some (f x)) → cond b (Some y) (find (λ (y : B). p (f y)) xs) ≡ Some x → cond b (Some (f y)) (find p (map f xs)) ≡ Some (f x)
      by_case true later e = ap (λ (z : B). Some (f z)) (same_Some y x e)
      by_case false later e = later e

  pub find_none_mapped : (xs : List B) → find (λ (y : B). p (f y)) xs ≡ None → find p (map f xs) ≡ None
  find_none_mapped [] e = refl
  find_none_mapped (y ∷ xs) e = by_case (p (f y)) (find_none_mapped xs) e
    where
      by_case : (b : Bool) → (find (λ (y : B). p (f y)) xs ≡ None → find p (map f xs) ≡ None) → cond b (Some y) (find (λ (y : B). p (f y)) xs) ≡ None → cond b (Some (f y)) (find p (map f xs)) ≡ None
      by_case true later e = absurd (cc)
      by_case false later e = later e

-- ---- serial numbers in a list
-- what all have, a serial number that is among them has
pub among_all : (P : SerialNumber → Type 0) (ks : List SerialNumber) (q : SerialNumber) → AllByRecursion P ks → list_any (same_serial q) ks ≡ true → P q
among_all P [] q all e = absurd (true≢false (sym e))
among_all P (k ∷ ks) q all e = by_case (same_serial q k) refl (among_all P ks q all.1) e
  where
    by_case : (b : Bool) → same_serial q k ≡ b → (list_any (same_serial q) ks ≡ true → P q) → (b || list_any (same_serial q) ks) ≡ true → P q
    by_case true same later e = subst P (sym (same_serial-is q k same)) all.0
    by_case false same later e = later e

-- a serial number that isn't among them differs from each
pub none_among : (ks : List SerialNumber) (q : SerialNumber) → list_any (same_serial q) ks ≡ false → AllByRecursion (λ (k : SerialNumber). same_serial q k ≡ false) ks
none_among [] q e = tt
none_among (k ∷ ks) q e = by_case (same_serial q k) refl (none_among ks q) e
  where
    by_case : (b : Bool) → same_serial q k ≡ b → (list_any (same_serial q) ks ≡ false → AllByRecursion (λ (k : SerialNumber). same_serial q k ≡ false) ks) → (b || list_any (same_serial q) ks) ≡ false
        → (same_serial q k ≡ false) × AllByRecursion (λ (k : SerialNumber). same_serial q k ≡ false) ks
    by_case true same later e = absurd (true≢false e)
    by_case false same later e = (same, later e)

-- no serial number is that of two elements
abbrev pub Apart : {A : Type 0} → (A → SerialNumber) → List A → Type 0
Apart key [] = ⊤
Apart key (x ∷ xs) = AllByRecursion (λ y. same_serial (key x) (key y) ≡ false) xs × Apart key xs

module _ {A : Type 0} (key : A → SerialNumber) where
  pub any_key : (q : SerialNumber) (xs : List A) → list_any (same_serial q) (map key xs) ≡ is_some (find (λ (x : A). same_serial q (key x)) xs)
  any_key q xs = same xs ∙ any_found (λ (x : A). same_serial q (key x)) xs
    where
      same : (xs : List A) → list_any (same_serial q) (map key xs) ≡ list_any (λ (x : A). same_serial q (key x)) xs
      same [] = refl
      same (x ∷ xs) = ap (λ (b : Bool). same_serial q (key x) || b) (same xs)

  pub keys_among : (xs : List A) → AllByRecursion (λ (x : A). list_any (same_serial (key x)) (map key xs) ≡ true) xs
  keys_among [] = tt
  keys_among (x ∷ xs) = (
    ap (λ (b : Bool). b || list_any (same_serial (key x)) (map key xs)) (same_serial-self (key x)),
    all_weaker (λ (y : A). list_any (same_serial (key y)) (map key xs) ≡ true) (λ (y : A). (same_serial (key y) (key x) || list_any (same_serial (key y)) (map key xs)) ≡ true)
        (λ (y : A) e. or_true (same_serial (key y) (key x)) (list_any (same_serial (key y)) (map key xs)) e) xs (keys_among xs),
  )

  -- each element is found by its serial number
  pub each_found : (xs : List A) → Apart key xs → AllByRecursion (λ (x : A). find (λ (y : A). same_serial (key x) (key y)) xs ≡ Some x) xs
  each_found [] apart = tt
  each_found (x ∷ xs) apart = (
    ap (λ (b : Bool). cond b (Some x) (find (λ (y : A). same_serial (key x) (key y)) xs)) (same_serial-self (key x)),
    all_weaker (λ (y : A). (same_serial (key x) (key y) ≡ false) × (find (λ (z : A). same_serial (key y) (key z)) xs ≡ Some y))
        (λ (y : A). cond (same_serial (key y) (key x)) (Some x) (find (λ (z : A). same_serial (key y) (key z)) xs) ≡ Some y)
        (λ (y : A) h. ap (λ (b : Bool). cond b (Some x) (find (λ (z : A). same_serial (key y) (key z)) xs)) (same_serial-swap (key y) (key x) ∙ h.0) ∙ h.1) xs
        (all_both (λ (y : A). same_serial (key x) (key y) ≡ false) (λ (y : A). find (λ (z : A). same_serial (key y) (key z)) xs ≡ Some y) xs apart.0 (each_found xs apart.1)),
  )

  pub apart_distinct : (xs : List A) → Apart key xs → IsDistinct same_serial (map key xs)
  unfolding IsDistinct
  apart_distinct [] apart = tt
  apart_distinct (x ∷ xs) apart =
      IsDistinct-cons same_serial (key x) (map key xs) (all_mapped (λ (k : SerialNumber). same_serial (key x) k ≡ false) key xs apart.0) (apart_distinct xs apart.1)

  pub distinct_apart : (xs : List A) → IsDistinct same_serial (map key xs) → Apart key xs
  distinct_apart [] distinct = tt
  distinct_apart (x ∷ xs) distinct = (
    all_unmapped (λ (k : SerialNumber). same_serial (key x) k ≡ false) key xs (IsDistinct-head same_serial (key x) (map key xs) distinct),
    distinct_apart xs (IsDistinct-tail same_serial (key x) (map key xs) distinct),
  )

-- ---- two lists joined
pub all_left : {A : Type 0} (P : A → Type 0) (xs ys : List A) → AllByRecursion P (xs ++ ys) → AllByRecursion P xs
all_left P [] ys all = tt
all_left P (x ∷ xs) ys all = (all.0, all_left P xs ys all.1)

pub all_right : {A : Type 0} (P : A → Type 0) (xs ys : List A) → AllByRecursion P (xs ++ ys) → AllByRecursion P ys
all_right P [] ys all = all
all_right P (x ∷ xs) ys all = all_right P xs ys all.1
