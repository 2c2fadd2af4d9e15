-- Lemmas that the proofs of crates above use.
use Rattle.std.proofs.Common.{◌⊎◌, ℕ, ◌+◌, ◌≤◌, Bool, List, Result}
use Rattle.std.specs.List.{AllByRecursion}
use Rattle.ee_desk_model.specs.declared.refusals.Unserved.{Unserved}
use Rattle.ee_keeper.specs.Keeping.{Continues, FailsOnlyIf, FailedIn, HasCause, IsShutByCause}
use Rattle.ee_keeper.proofs.Causes

-- ---- causes of two calls, one after the other

-- a cause in an earlier call is one of both
pub cause_then : (a b c : ℕ) (was_open : Bool) → HasCause a b was_open → b ≤ c → HasCause a c was_open
cause_then = Causes.cause_then

-- so is a cause in a later call
pub cause_since : (a b c : ℕ) (was_open is_open : Bool) → IsShutByCause a b was_open is_open → b ≤ c → HasCause b c is_open → HasCause a c was_open
cause_since = Causes.cause_since

pub shut_then : (a b c : ℕ) (x y z : Bool) → IsShutByCause a b x y → IsShutByCause b c y z → IsShutByCause a c x z
shut_then = Causes.shut_then

pub nothing_shut : (a : ℕ) (x : Bool) → IsShutByCause a a x x
nothing_shut = Causes.nothing_shut

pub fails_more : {A : Type 0} (P Q : Type 0) (r : Result A Unserved) → (P → Q) → FailsOnlyIf P r → FailsOnlyIf Q r
fails_more = Causes.fails_more

pub all_fail_more : {A : Type 0} (P Q : Type 0) (rs : List (Result A Unserved)) → (P → Q) → AllByRecursion (FailsOnlyIf P) rs → AllByRecursion (FailsOnlyIf Q) rs
all_fail_more = Causes.all_fail_more

-- ---- a keeper over several calls

module _ {Keeper : Type 0} (is_clean is_guarded : Keeper → Type 0) (is_open : Keeper → Bool) (faults : Keeper → ℕ) where
  pub continues_itself : (k : Keeper) → Continues is_clean is_guarded is_open faults k k
  continues_itself = Causes.continues_itself is_clean is_guarded is_open faults

  pub continues_on : (old now new : Keeper) → Continues is_clean is_guarded is_open faults old now → Continues is_clean is_guarded is_open faults now new
      → Continues is_clean is_guarded is_open faults old new
  continues_on = Causes.continues_on is_clean is_guarded is_open faults

  -- a cause in an earlier call, or in a later one, is one of both
  pub failed_before : (old now new : Keeper) → is_clean new → Continues is_clean is_guarded is_open faults now new
      → FailedIn is_open faults old now → FailedIn is_open faults old new
  failed_before = Causes.failed_before is_clean is_guarded is_open faults

  pub failed_after : (old now new : Keeper) → is_clean new → Continues is_clean is_guarded is_open faults old now → Continues is_clean is_guarded is_open faults now new
      → FailedIn is_open faults now new → FailedIn is_open faults old new
  failed_after = Causes.failed_after is_clean is_guarded is_open faults

  -- a cause that was there before a call, or one in it, is one of both
  pub failed_in_turn : (old now new : Keeper) (Was : Type 0) → is_clean new → Continues is_clean is_guarded is_open faults old now → Continues is_clean is_guarded is_open faults now new
      → (Was → FailedIn is_open faults old now) → Was ⊎ FailedIn is_open faults now new → FailedIn is_open faults old new
  failed_in_turn = Causes.failed_in_turn is_clean is_guarded is_open faults

-- a keeper that takes some requests takes fewer
pub takes_fewer : {Keeper : Type 0} (takes : ℕ → Keeper → Type 0) (k : Keeper) → ((n : ℕ) → takes (n + 1) k → takes n k) → (few many : ℕ) → few ≤ many → takes many k → takes few k
takes_fewer = Causes.takes_fewer
