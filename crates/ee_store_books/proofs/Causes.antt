-- Why a call fails that makes other calls in turn.
use Rattle.std.proofs.Common.{◌≡◌, ◌≤◌, inl, inr, false, sym, ◌∙◌, subst, arith}
use Rattle.std.specs.Prelude.{Result, Ok, Err, IfErr}
use Rattle.std.specs.Result.{IsOk}
use Rattle.std.proofs.lemmas.Bool.{cases_Bool}
use Rattle.sqlite.specs.State as sqlite
use Rattle.sqlite.specs.State.{State, HasCleanDisk, IsUnchanged, Survives, store_error}
use Rattle.sqlite.specs.Tree.{Trees}
use Rattle.sqlite.specs.Steps.{FailsToCommit}
use Rattle.sqlite.specs.declared.error.Error.{Error}
use Rattle.sqlite_trees.specs.declared.error.StoreError.{StoreError}
use Rattle.sqlite_trees.specs.declared.error.StoreError.TheVariants.{OutOfMemory, Io, Corrupt, Full, Broken, Unstorable}
use Rattle.ee_store_tables.specs.Failures.{failure_of}
use Rattle.ee_store_tables.specs.declared.failures.Failure.{Failure}
use Rattle.ee_store_tables.specs.declared.failures.Failure.TheVariants as failure
use Rattle.ee_store_tables.specs.Rows.{Rows, IsInside, Sees}
use Rattle.ee_store_tables.specs.Statements.{LeavesNoMore, HasCause, IsExcused}
use Rattle.ee_store_tables.proofs.Lemmas.Transactions.{unchanged_sees, begun}
use Rattle.ee_store_tables.proofs.Lemmas.Causes.{cause_then, unchanged_room}
use Rattle.sqlite.proofs.StateLemmas.{survives_then}
use Rattle.ee_store_books.specs.Seen.{StaysSeen}

-- a cause within a later call is one of the whole
pub excused_later : (old middle new : State) {P Q : Trees → Type 0} → HasCleanDisk new → Survives old middle P → Survives middle new Q → (e : Failure) → IsExcused middle new e → IsExcused old new e
excused_later old middle new clean first second failure.NoMemory h = tt
excused_later old middle new clean first second failure.StoreFailed h = cause_then old middle new first second clean h

-- a cause within an earlier call is one of the whole
pub excused_before : (old middle new : State) → middle.faults ≤ new.faults → (e : Failure) → IsExcused old middle e → IsExcused old new e
excused_before old middle new counts failure.NoMemory h = tt
excused_before old middle new counts failure.StoreFailed (inl more) = inl (omega (arith, counts, more))
excused_before old middle new counts failure.StoreFailed (inr shut) = inr shut

caused_as : (old new : State) (cause : StoreError) → sqlite.HasCause old new ⊥ cause → IsExcused old new (failure_of (store_error cause))
caused_as old new OutOfMemory h = tt
caused_as old new Io h = inl h
caused_as old new Corrupt h = inl h
caused_as old new Full h = inl h
caused_as old new Broken h = inr h
caused_as old new Unstorable h = absurd h

not_inside : (old new : State) → IsInside old → old.in_transaction ≡ false → (f : Failure) → IsExcused old new f
not_inside old new inside ended failure.NoMemory = tt
not_inside old new inside ended failure.StoreFailed = elim (cases_Bool old.is_open) [
  | inl opened ↦ absurd (let e = sym (inside opened).0 ∙ ended in cc)
  | inr shut ↦ inr shut
]

-- a commit in a transaction fails for a cause
pub commit_excused : (old new : State) → IsInside old → (e : Error) → FailsToCommit old new e → IsExcused old new (failure_of e)
commit_excused old new inside e (inl h) = subst (λ e. IsExcused old new (failure_of e)) (sym h.1) (caused_as old new h.0 h.2)
commit_excused old new inside e (inr h) = not_inside old new inside h.1 (failure_of e)

-- if a value was given, nothing failed
pub served : {X E : Type 0} (P : E → Type 0) (r : Result X E) → IsOk r → IfErr r P
served P (Ok x) is = tt
served P (Err e) is = absurd (cc)

-- ---- what is seen stays
pub unchanged_rows : (old new : State) → IsUnchanged old new → (rows : Rows) → Sees old rows → StaysSeen old new rows
unchanged_rows old new same rows sees = (unchanged_sees old new rows same sees, λ n. unchanged_room old new n same)

pub seen_then : (old middle new : State) (rows : Rows) → StaysSeen old middle rows → (Sees middle rows → StaysSeen middle new rows) → StaysSeen old new rows
seen_then old middle new rows first second = let then = second first.0 in (then.0, λ n room. then.1 n (first.1 n room))

pub leaves_then : (old middle new : State) → LeavesNoMore old middle → LeavesNoMore middle new → LeavesNoMore old new
leaves_then old middle new first second = survives_then old middle new _ _ _ (λ _ db h. h) (λ _ db h. h) first second

module _ (old start : State) (is : start ≡ begun old) (middle new : State) (crash : LeavesNoMore start middle) (survives : Survives middle new (λ _. ⊥)) where
  -- a cause within the transaction is one of the whole
  pub excused : (e : Failure) → IsExcused start middle e → IsExcused old new e
  excused failure.NoMemory h = tt
  excused failure.StoreFailed h = excused_before old middle new survives.counts failure.StoreFailed (subst (λ (s : State). HasCause s middle) is h)
