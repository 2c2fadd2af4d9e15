-- What a statement in a transaction does to the store, and to the rows that are seen there.
-- Nothing is said of a store that a failing disk has shut.
use Rattle.std.specs.Prelude.{◌≡◌, ◌⊎◌, ⊤, ℕ, ◌+◌, false, None, Result, IsTrue, IfOk, IfErr, OnOk, OnErr}
use Rattle.sqlite_disk.specs.Disk.{MoreFaults}
use Rattle.sqlite.specs.Effect.{IsDatabase}
use Rattle.sqlite.specs.State.{State, HasCleanDisk, IsUnchanged, KeepsCommit, Survives}
use Rattle.ee_store_tables.specs.declared.failures.Failure.{Failure}
use Rattle.ee_store_tables.specs.declared.failures.Failure.TheVariants.{NoMemory, StoreFailed}
use Rattle.ee_store_tables.specs.Tables.{KeepsOthers}
use Rattle.ee_store_tables.specs.Rows.{Rows, IsInside, Sees, HasRoom}

-- ---- what each statement keeps

abbrev pub LeavesOpen : {X E : Type 0} → State → Result X E → Type 0
LeavesOpen new result = HasCleanDisk new → OnOk result (IsTrue new.is_open)

abbrev pub StaysOpen : {X E : Type 0} → State → State → Result X E → Type 0
StaysOpen old new result = HasCleanDisk new → IsTrue old.is_open → OnOk result (IsTrue new.is_open)

-- the transaction goes on, over the counter's tables
abbrev pub StaysInside : {X E : Type 0} → State → State → Result X E → Type 0
StaysInside old new result = HasCleanDisk new → IsInside old → OnOk result (IsInside new)

abbrev pub CommitsNothing : State → State → Type 0
CommitsNothing old new = HasCleanDisk new → IsInside old → KeepsCommit old new

-- a crash leaves what it could leave before
abbrev pub LeavesNoMore : State → State → Type 0
LeavesNoMore old new = Survives old new (λ _. ⊥)

-- ---- what a statement writes

-- the change that it makes to the rows
abbrev pub Makes : {X E : Type 0} → State → State → Result X E → (Rows → Rows) → Type 0
Makes old new result next = HasCleanDisk new → OnOk result ((rows : Rows) → Sees old rows → Sees new (next rows))

-- after a write the trees list the tables and obey them
abbrev pub LeavesSound : {X E : Type 0} → State → State → Result X E → Type 0
LeavesSound old new result = HasCleanDisk new → IsInside old → OnOk result (IsTrue new.is_open → IsDatabase new.now)

-- as many more rows fit as before
abbrev pub KeepsRoom : {X E : Type 0} → State → State → Result X E → Type 0
KeepsRoom old new result = HasCleanDisk new → IsInside old → OnOk result ((rows : Rows) → Sees old rows → (n : ℕ) → HasRoom n old → HasRoom n new)

-- `count` fewer rows fit
abbrev pub TakesRoom : {X E : Type 0} → State → State → Result X E → ℕ → Type 0
TakesRoom old new result count = HasCleanDisk new → IsInside old → OnOk result ((rows : Rows) → Sees old rows → (n : ℕ) → HasRoom (n + count) old → HasRoom n new)

-- ---- what a statement reads

-- what it finds in the rows
abbrev pub Finds : {X E : Type 0} → State → State → Result X E → (Rows → X → Type 0) → Type 0
Finds old new result Shows = HasCleanDisk new → IfOk result (λ found. (rows : Rows) → Sees old rows → Shows rows found)

abbrev pub ChangesNothing : {X E : Type 0} → State → State → Result X E → Type 0
ChangesNothing old new result = HasCleanDisk new → IsInside old → OnOk result (IsUnchanged old new)

abbrev pub FailsAlone : {X E : Type 0} → State → State → Result X E → Type 0
FailsAlone old new result = HasCleanDisk new → IsInside old → OnErr result (KeepsCommit old new)

-- ---- what statements of one kind leave

-- A query. If it succeeds, the store is open, and nothing changed. If it fails, nothing is committed.
pub record OnlyQueries {X E : Type 0} (old new : State) (result : Result X E) : Type 0 where
  pub still_open : LeavesOpen new result
  pub same : ChangesNothing old new result
  pub err : FailsAlone old new result
  pub crash : LeavesNoMore old new

-- A statement that writes. If it succeeds, the store is open, and the transaction goes on. Nothing is committed.
pub record WritesInside {X E : Type 0} (old new : State) (result : Result X E) : Type 0 where
  pub still_open : LeavesOpen new result
  pub inside : StaysInside old new result
  pub commit : CommitsNothing old new
  pub crash : LeavesNoMore old new

-- Statements that write, of which there may be none: if they succeed, a store that was open is open.
pub record WritesIfAny {X E : Type 0} (old new : State) (result : Result X E) : Type 0 where
  pub still_open : StaysOpen old new result
  pub inside : StaysInside old new result
  pub commit : CommitsNothing old new
  pub crash : LeavesNoMore old new

-- ---- why a statement fails

-- the device failed once more, or the store was shut before
abbrev pub HasCause : State → State → Type 0
HasCause old new = MoreFaults old.faults new.faults ⊎ (old.is_open ≡ false)

-- want of memory, or a failure of the store with such a cause
abbrev pub IsExcused : State → State → Failure → Type 0
IsExcused old new NoMemory = ⊤
IsExcused old new StoreFailed = HasCause old new

-- in a transaction that sees allowed rows, without a limit on steps
abbrev pub FailsByCause : {X : Type 0} → State → State → Result X Failure → (Rows → Type 0) → Type 0
FailsByCause old new result Allows = HasCleanDisk new → IsInside old → old.step_limit ≡ None → (rows : Rows) → Sees old rows → Allows rows → IfErr result (IsExcused old new)

-- ---- tables of others

-- what the last commit left of others' tables, the commits of a call left
abbrev pub LeavesOthers : State → State → Type 0
LeavesOthers old new = IsTrue new.is_open → KeepsOthers old.committed new.committed
