-- Why a keeper's answers say that the store failed, over several calls.
use Rattle.std.proofs.Common.{◌≡◌, inl, inr, ℕ, zero, suc, ◌+◌, ◌-◌, add-zero, ◌≤◌, ◌⊎◌, Bool, List, [], ◌∷◌, Result, Ok, Err, subst, arith}
use Rattle.std.specs.List.{AllByRecursion}
use Rattle.ee_desk_model.specs.declared.refusals.Unserved.{Unserved}
use Rattle.ee_keeper.specs.Keeping.{Continues, FailsOnlyIf, FailedIn, HasFailed, HasCause, IsShutByCause}

-- ---- causes of two calls, one after the other

failed_then : (a b c : ℕ) → HasFailed a b → b ≤ c → HasFailed a c
failed_then a b c failed more = omega arith

failed_since : (a b c : ℕ) → a ≤ b → HasFailed b c → HasFailed a c
failed_since a b c more failed = omega arith

-- a cause in an earlier call is one of both
pub cause_then : (a b c : ℕ) (was_open : Bool) → HasCause a b was_open → b ≤ c → HasCause a c was_open
cause_then a b c was_open (inl failed) more = inl (failed_then a b c failed more)
cause_then a b c was_open (inr shut) more = inr shut

-- so is a cause in a later call
pub cause_since : (a b c : ℕ) (was_open is_open : Bool) → IsShutByCause a b was_open is_open → b ≤ c → HasCause b c is_open → HasCause a c was_open
cause_since a b c was_open is_open first more (inl failed) = inl (failed_since a b c first.0 failed)
cause_since a b c was_open is_open first more (inr shut) = cause_then a b c was_open (first.1 shut) more

pub shut_then : (a b c : ℕ) (x y z : Bool) → IsShutByCause a b x y → IsShutByCause b c y z → IsShutByCause a c x z
shut_then a b c x y z first second = (omega (arith, first.0, second.0), λ shut. cause_since a b c x y first second.0 (second.1 shut))

pub nothing_shut : (a : ℕ) (x : Bool) → IsShutByCause a a x x
nothing_shut a x = (omega arith, λ shut. inr shut)

pub fails_more : {A : Type 0} (P Q : Type 0) (r : Result A Unserved) → (P → Q) → FailsOnlyIf P r → FailsOnlyIf Q r
fails_more P Q (Ok x) more fails = tt
fails_more P Q (Err e) more fails = λ is. more (fails is)

pub all_fail_more : {A : Type 0} (P Q : Type 0) (rs : List (Result A Unserved)) → (P → Q) → AllByRecursion (FailsOnlyIf P) rs → AllByRecursion (FailsOnlyIf Q) rs
all_fail_more P Q [] more all = tt
all_fail_more P Q (r ∷ rs) more all = (fails_more P Q r more all.0, all_fail_more P Q rs more all.1)

-- ---- a keeper over several calls

module _ {Keeper : Type 0} (is_clean is_guarded : Keeper → Type 0) (is_open : Keeper → Bool) (faults : Keeper → ℕ) where
  pub continues_itself : (k : Keeper) → Continues is_clean is_guarded is_open faults k k
  continues_itself k = record { clean = λ clean. clean; guarded = λ guarded. guarded; shut = λ clean. nothing_shut (faults k) (is_open k) }

  pub continues_on : (old now new : Keeper) → Continues is_clean is_guarded is_open faults old now → Continues is_clean is_guarded is_open faults now new
      → Continues is_clean is_guarded is_open faults old new
  continues_on old now new first second = record {
    clean = λ clean. first.clean (second.clean clean);
    guarded = λ guarded. second.guarded (first.guarded guarded);
    shut = λ clean. shut_then (faults old) (faults now) (faults new) (is_open old) (is_open now) (is_open new) (first.shut (second.clean clean)) (second.shut clean);
  }

  -- a cause in an earlier call, or in a later one, is one of both
  pub failed_before : (old now new : Keeper) → is_clean new → Continues is_clean is_guarded is_open faults now new
      → FailedIn is_open faults old now → FailedIn is_open faults old new
  failed_before old now new clean second failed = cause_then (faults old) (faults now) (faults new) (is_open old) failed (second.shut clean).0

  pub failed_after : (old now new : Keeper) → is_clean new → Continues is_clean is_guarded is_open faults old now → Continues is_clean is_guarded is_open faults now new
      → FailedIn is_open faults now new → FailedIn is_open faults old new
  failed_after old now new clean first second failed =
      cause_since (faults old) (faults now) (faults new) (is_open old) (is_open now) (first.shut (second.clean clean)) (second.shut clean).0 failed

  -- a cause that was there before a call, or one in it, is one of both
  pub failed_in_turn : (old now new : Keeper) (Was : Type 0) → is_clean new → Continues is_clean is_guarded is_open faults old now → Continues is_clean is_guarded is_open faults now new
      → (Was → FailedIn is_open faults old now) → Was ⊎ FailedIn is_open faults now new → FailedIn is_open faults old new
  failed_in_turn old now new Was clean first second before (inl was) = failed_before old now new clean second (before was)
  failed_in_turn old now new Was clean first second before (inr failed) = failed_after old now new clean first second failed

-- a keeper that takes some requests takes fewer
pub takes_fewer : {Keeper : Type 0} (takes : ℕ → Keeper → Type 0) (k : Keeper) → ((n : ℕ) → takes (n + 1) k → takes n k) → (few many : ℕ) → few ≤ many → takes many k → takes few k
takes_fewer takes k fewer few many less taken = go (many - few) (subst (λ m. takes m k) (let is : many ≡ few + (many - few) = omega (arith, less) in is) taken)
  where
    go : (n : ℕ) → takes (few + n) k → takes few k
    go zero taken = subst (λ m. takes m k) (add-zero few) taken
    go (suc n) taken = go n (fewer (few + n) (subst (λ m. takes m k) (let is : few + suc n ≡ (few + n) + 1 = omega arith in is) taken))
