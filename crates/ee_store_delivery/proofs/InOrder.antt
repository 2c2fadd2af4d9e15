-- Calls in a transaction, one after the other.
use Rattle.std.proofs.Common.{Result, Ok}
use Rattle.sqlite.specs.State.{State, HasCleanDisk, IsUnchanged, KeepsCommit}
use Rattle.sqlite.proofs.InsideLemmas.{keeps_then}
use Rattle.ee_store_tables.specs.Rows.{IsInside}
use Rattle.ee_store_tables.specs.Statements.{CommitsNothing, LeavesNoMore, WritesInside, WritesIfAny}
use Rattle.ee_store_tables.proofs.Lemmas.Transactions.{clean_before}
use Rattle.ee_store_books.specs.Seen.{OnlyReads}
use Rattle.ee_store_books.proofs.Lemmas.Lookups.{leaves_then}

-- two calls commit nothing if neither does
pub commits_then : (old middle new : State) → (HasCleanDisk middle → IsInside old → IsInside middle) → LeavesNoMore middle new → CommitsNothing old middle → CommitsNothing middle new → CommitsNothing old new
commits_then old middle new still crash first second clean inside =
    let before = clean_before middle new crash clean in
    keeps_then old middle new (first before inside) (second clean (still before inside))

-- an unchanged store keeps its commit
pub unchanged_keeps : (old new : State) → IsUnchanged old new → KeepsCommit old new
unchanged_keeps old new same = record { was_open = λ _. same.0.was_open; committed = λ _. same.0.committed_is }

module _ {X E : Type 0} (old new : State) where
  -- what a look-up leaves, and a write, is what writes leave of which there may be none
  pub reads_if_any : (r : Result X E) → OnlyReads old new r → WritesIfAny old new r
  reads_if_any r it = record { still_open = it.still_open; inside = it.inside; commit = it.commit; crash = it.crash }

  pub one_if_any : (r : Result X E) → WritesInside old new r → WritesIfAny old new r
  one_if_any r it = record { still_open = λ clean _. it.still_open clean; inside = it.inside; commit = it.commit; crash = it.crash }

  -- whatever value is given
  pub given_if_any : {Y : Type 0} (x : X) (y : Y) → WritesIfAny {X = X} {E = E} old new (Ok x) → WritesIfAny {X = Y} {E = E} old new (Ok y)
  given_if_any x y it = record { still_open = it.still_open; inside = it.inside; commit = it.commit; crash = it.crash }

-- writes and then others
pub writes_then : {X Y E : Type 0} (old middle new : State) (x : X) (r : Result Y E) → WritesIfAny {X = X} {E = E} old middle (Ok x) → WritesIfAny middle new r → WritesIfAny old new r
writes_then old middle new x r first second = record {
  still_open = λ clean is_open. second.still_open clean (first.still_open (clean_before middle new second.crash clean) is_open);
  inside = λ clean inside. second.inside clean (first.inside (clean_before middle new second.crash clean) inside);
  commit = commits_then old middle new first.inside second.crash first.commit second.commit;
  crash = leaves_then old middle new first.crash second.crash;
}
