-- Statements and transactions: what they keep of a store, and what they leave.
use Rattle.std.proofs.Common.{Bool, Err, IsTrue, List, Ok, OnErr, Result, false, ℕ, ◌≡◌, ◌⊎◌}
use Rattle.sqlite.specs.Order.{Row}
use Rattle.sqlite.specs.State.{FailsToQuery, HasCleanDisk, IsRolledBack, IsTooLate, IsUnchanged, KeepsCommit, Shown, Shows, State, Survives}
use Rattle.sqlite.specs.Steps.{FailsToCommit}
use Rattle.sqlite.specs.Tree.{Trees}
use Rattle.sqlite.specs.declared.error.Error.{Error}
use Rattle.ee_store_tables.specs.Rows.{Has, IsInside, Rows, Sees}
use Rattle.ee_store_tables.specs.Statements.{LeavesOthers}
use Rattle.ee_store_tables.proofs.KeepLemmas
use Rattle.ee_store_tables.proofs.TransactionLemmas
pub use Rattle.ee_store_tables.proofs.TransactionLemmas.{begun}

-- ---- what stays as it was
-- a disk that is clean now was clean before
pub clean_before : (a b : State) {P : Trees → Type 0} → Survives a b P → HasCleanDisk b → HasCleanDisk a
clean_before = KeepLemmas.clean_before

-- a transaction sees the rows that it saw in an unchanged store
pub unchanged_sees : (a b : State) (rows : Rows) → IsUnchanged a b → Sees a rows → Sees b rows
unchanged_sees = KeepLemmas.unchanged_sees

-- an unchanged store is inside a transaction over the counter's tables if it was before
pub unchanged_inside : (a b : State) → IsUnchanged a b → IsInside a → IsInside b
unchanged_inside = KeepLemmas.unchanged_inside

-- a query that failed commits nothing
pub query_keeps : (old new : State) (sql : List ℕ) (params : Row) (e : Error) → FailsToQuery sql params old new e ⊎ IsTooLate sql params old new e
    → KeepsCommit old new
query_keeps = KeepLemmas.query_keeps

-- a store that showed rows was open
pub shown_open : (old new : State) (sql : List ℕ) (params : Row) (rows : List Row) → Shown sql params old new rows → IsTrue old.is_open
shown_open = KeepLemmas.shown_open

-- a statement that ran in a transaction ran inside it
pub inside_if_ok : {X Y : Type 0} (b : Bool) (r : Result X Error) (x : X) {e : Error} → r ≡ Ok x → (b ≡ false → (r ≡ Err e) × Y) → IsTrue b
inside_if_ok = KeepLemmas.inside_if_ok

-- ---- a transaction from its beginning to its end
-- after the beginning a transaction is open over the counter's tables
pub begun_inside : (old start : State) (is : start ≡ begun old) (settled : IsTrue old.is_open → old.now ≡ old.committed) (rows : Rows)
    (has : Has old rows) → IsInside start
begun_inside = TransactionLemmas.begun_inside

-- and it shows the rows that the store has
pub begun_sees : (old start : State) (is : start ≡ begun old) (settled : IsTrue old.is_open → old.now ≡ old.committed) (rows : Rows)
    (has : Has old rows) → Sees start rows
begun_sees = TransactionLemmas.begun_sees

-- what commits nothing leaves the rows that the store has
pub still_has : (old start : State) (is : start ≡ begun old) (middle new : State) (rows : Rows) → Has old rows → KeepsCommit start middle
    → KeepsCommit middle new → Has new rows
still_has = TransactionLemmas.still_has

-- and leaves others' tables as they were
pub still_others : (old start : State) (is : start ≡ begun old) (middle new : State) → KeepsCommit start middle → KeepsCommit middle new → LeavesOthers old new
still_others = TransactionLemmas.still_others

-- so does a commit
pub committed_others : (old start : State) (is : start ≡ begun old) (middle new : State) → KeepsCommit start middle → IsInside middle
    → Shows middle new middle.now middle.now false → LeavesOthers old new
committed_others = TransactionLemmas.committed_others

-- rolling back commits nothing
pub rolled_keeps : (old start : State) (is : start ≡ begun old) (middle new : State) → IsRolledBack middle new → KeepsCommit middle new
rolled_keeps = TransactionLemmas.rolled_keeps

-- a commit that failed commits nothing
pub failed_keeps : (old start : State) (is : start ≡ begun old) (middle new : State) (e : Error) → FailsToCommit middle new e → KeepsCommit middle new
failed_keeps = TransactionLemmas.failed_keeps

-- after a commit the store has the rows that the transaction showed
pub committed_has : (old start : State) (is : start ≡ begun old) (middle new : State) (rows : Rows) → Sees middle rows
    → Shows middle new middle.now middle.now false → Has new rows
committed_has = TransactionLemmas.committed_has

-- a crash leaves what it left before, or what the commit made
pub commit_survives : (old start : State) (is : start ≡ begun old) (middle new : State) (Made : Trees → Type 0)
    → (HasCleanDisk middle → Made middle.now.trees) → Survives start middle (λ _. ⊥) → Survives middle new (λ db. db ≡ middle.now.trees)
    → Survives old new Made
commit_survives = TransactionLemmas.commit_survives

-- ---- results
-- what holds, holds if there is an error
pub on_err_from : {X E Q : Type 0} (r : Result X E) → Q → OnErr r Q
on_err_from = KeepLemmas.if_err
