-- Statements in a transaction, one after the other.
use Rattle.std.proofs.Common.{IsTrue, inl, arith, refl}
use Rattle.sqlite.specs.State.{State, HasCleanDisk}
use Rattle.sqlite.proofs.StateLemmas.{survives_then}
use Rattle.sqlite.proofs.InsideLemmas.{keeps_then}
use Rattle.ee_store_tables.specs.Rows.{IsInside}
use Rattle.ee_store_tables.specs.Statements.{CommitsNothing, LeavesNoMore}
use Rattle.ee_store_tables.proofs.Lemmas.Transactions.{clean_before}

-- what statements that did not fail leave of a store
pub record Stays (old now : State) : Type 0 where
  pub crash : LeavesNoMore old now
  pub commit : CommitsNothing old now
  pub still_open : HasCleanDisk now → IsTrue old.is_open → IsTrue now.is_open
  pub inside : HasCleanDisk now → IsInside old → IsInside now

-- after none
pub nothing_done : (s : State) → Stays s s
nothing_done s = record {
  crash = record { clean = omega arith; shield = λ h. h; counts = omega arith; limit = refl; closes = λ _ h. inl h; crash = λ _ db h. inl h };
  commit = λ _ _. record { was_open = λ h. h; committed = λ _. refl };
  still_open = λ _ h. h;
  inside = λ _ h. h;
}

-- what one more leaves, also if it fails
pub crash_then : (old middle new : State) → Stays old middle → LeavesNoMore middle new → LeavesNoMore old new
crash_then old middle new was crash = survives_then old middle new _ _ _ (λ _ db h. h) (λ _ db h. h) was.crash crash

pub commit_then : (old middle new : State) → Stays old middle → LeavesNoMore middle new → CommitsNothing middle new → CommitsNothing old new
commit_then old middle new was crash commit clean inside =
    let before = clean_before middle new crash clean in
    keeps_then old middle new (was.commit before inside) (commit clean (was.inside before inside))

-- after one more
pub done_then : (old middle new : State) → Stays old middle → LeavesNoMore middle new → CommitsNothing middle new
    → (HasCleanDisk new → IsTrue middle.is_open → IsTrue new.is_open) → (HasCleanDisk new → IsInside middle → IsInside new) → Stays old new
done_then old middle new was crash commit opened inside = record {
  crash = crash_then old middle new was crash;
  commit = commit_then old middle new was crash commit;
  still_open = λ clean h. opened clean (was.still_open (clean_before middle new crash clean) h);
  inside = λ clean h. inside clean (was.inside (clean_before middle new crash clean) h);
}
