-- One more row that was read.
use Rattle.std.proofs.Common.{◌≡◌, ◌↔◌, ℕ, suc, arith, ◌&&◌, Bool, true, false, List, [], ◌∷◌, ◌++◌, map, Option, Some, Ok, Err, Result, refl, sym, ap, ◌∙◌}
use Rattle.std.proofs.Math.Bool.{and-true, and_assoc}
use Rattle.std.specs.Prelude.{◌-◌, length, slice_get, if◌then◌else◌}
use Rattle.std.specs.Result.{is_ok, is_err}
use Rattle.std.specs.Option.{option_map_or}
use Rattle.std.specs.List.{AllByRecursion}
use Rattle.ee_store_load.specs.Reading.{rises}
use Rattle.ee_store_load.specs.Testing.{last_of, Tells}

last_more : {X : Type 0} (rows : List X) (x : X) → last_of (rows ++ x ∷ []) ≡ Some x
last_more [] x = refl
last_more (r ∷ []) x = refl
last_more (r ∷ s ∷ rows) x = last_more (s ∷ rows) x

module _ {X : Type 0} (precedes : X → X → Bool) where
  rises_more : (rows : List X) (x : X) → rises precedes (rows ++ x ∷ []) ≡ rises precedes rows && option_map_or (λ it. precedes it x) (last_of rows) true
  rises_more [] x = refl
  rises_more (r ∷ []) x = and-true (precedes r x)
  rises_more (r ∷ s ∷ rows) x =
      ap (λ b. precedes r s && b) (rises_more (s ∷ rows) x)
      ∙ sym (and_assoc (precedes r s) (rises precedes (s ∷ rows)) (option_map_or (λ it. precedes it x) (last_of (s ∷ rows)) true))

module _ {X : Type 0} (P : X → Type 0) where
  all_more : (rows : List X) (x : X) → AllByRecursion P rows → P x → AllByRecursion P (rows ++ x ∷ [])
  all_more [] x all one = (one, tt)
  all_more (r ∷ rows) x all one = (all.0, all_more rows x all.1 one)

  all_less : (rows : List X) (x : X) → AllByRecursion P (rows ++ x ∷ []) → AllByRecursion P rows × P x
  all_less [] x all = (tt, all.0)
  all_less (r ∷ rows) x all = let rest = all_less rows x all.1 in ((all.0, rest.0), rest.1)

  pass_more : (rows : List X) (x : X) (pass right more : Bool) → (pass ≡ true) ↔ AllByRecursion P rows → (right ≡ true) ↔ P x → more ≡ pass && right → (more ≡ true) ↔ AllByRecursion P (rows ++ x ∷ [])
  pass_more rows x true true more all one is = (λ _. all_more rows x (all.0 refl) (one.0 refl), λ _. is)
  pass_more rows x true false more all one is = (λ yes. absurd (let e = sym is ∙ yes in cc), λ both. absurd (let e = one.1 (all_less rows x both).1 in cc))
  pass_more rows x false right more all one is = (λ yes. absurd (let e = sym is ∙ yes in cc), λ both. absurd (let e = all.1 (all_less rows x both).0 in cc))

-- the last row of a list, as a slice has it
pub last_is : {X : Type 0} (rows : List X) → slice_get rows (length rows - 1) ≡ last_of rows
last_is [] = refl
last_is (r ∷ []) = refl
last_is (r ∷ s ∷ rows) = ap (slice_get (r ∷ s ∷ rows)) (less (suc (length rows))) ∙ ap (slice_get (s ∷ rows)) (sym (less (length rows))) ∙ last_is (s ∷ rows)
  where
    less : (n : ℕ) → suc n - 1 ≡ n
    less n = omega arith

-- whether the keys rise, with one more row
pub rise_more : {X : Type 0} (precedes : X → X → Bool) (last : Option X) (rise follows more : Bool) (rows : List X) (x : X) → last ≡ last_of rows → rise ≡ rises precedes rows
    → follows ≡ option_map_or (λ it. precedes it x) last true → more ≡ rise && follows → more ≡ rises precedes (rows ++ x ∷ [])
rise_more precedes last rise follows more rows x ends up follow is =
    is ∙ ap (λ b. b && follows) up
    ∙ ap (λ b. rises precedes rows && b) (follow ∙ ap (λ o. option_map_or (λ it. precedes it x) o true) ends) ∙ sym (rises_more precedes rows x)

-- what is known of rows that were tested, with one more
pub one_tested : {X : Type 0} (precedes : X → X → Bool) (P : X → Type 0) (last : Option X) (rise pass more_rise more_pass : Bool) (rows : List X) (x : X) (follows right : Bool)
    → Tells precedes P last rise pass rows → follows ≡ option_map_or (λ it. precedes it x) last true → (right ≡ true) ↔ P x
    → more_rise ≡ rise && follows → more_pass ≡ pass && right → Tells precedes P (Some x) more_rise more_pass (rows ++ x ∷ [])
one_tested precedes P last rise pass more_rise more_pass rows x follows right tells follow one up passed = record {
  last_is = sym (last_more rows x);
  rise_is = rise_more precedes last rise follows more_rise rows x tells.last_is tells.rise_is follow up;
  pass_is = pass_more P rows x pass right more_pass tells.pass_is one passed;
}

-- what a query showed grows by it
pub shown_more : {A B : Type 0} (f : A → B) (xs : List A) (x : A) (row : B) → row ≡ f x → map f xs ++ row ∷ [] ≡ map f (xs ++ x ∷ [])
shown_more f [] x row is = ap (λ r. r ∷ []) is
shown_more f (y ∷ xs) x row is = ap (λ rows. f y ∷ rows) (shown_more f xs x row is)

-- what was pushed stands last
pub pushed : {A E F : Type 0} (r : Result E F) → false ≡ is_err r → (ys xs : List A) (x : A) → ys ≡ (if is_ok r then xs ++ x ∷ [] else xs) → ys ≡ xs ++ x ∷ []
pushed (Ok e) done ys xs x is = is
pushed (Err e) done ys xs x is = absurd cc
