-- How a failure of `sqlite` is reported while a store is opened, why a store is reported as failed, and what a call leaves
-- even then.
use Rattle.std.specs.Prelude.{◌≡◌, false, None, Result, IfErr}
use Rattle.sqlite.specs.State.{State, HasCleanDisk}
use Rattle.ee_store_tables.specs.Statements.{HasCause}
use Rattle.ee_store_tables.specs.declared.failures.Failure.{Failure}
use Rattle.ee_store_tables.specs.declared.failures.Failure.TheVariants as failure
use Rattle.sqlite.specs.declared.error.Error.{Error}
use Rattle.sqlite.specs.declared.error.Error.TheVariants.{SqliteFailure, SqlInputError, InvalidColumnIndex, InvalidColumnType, IntegralValueOutOfRange, Utf8Error}
use Rattle.sqlite.specs.declared.error.ErrorCode.TheVariants.{OutOfMemory, NameTaken}
use Rattle.ee_store_schema.specs.declared.faults.OpenFault.{OpenFault}
use Rattle.ee_store_schema.specs.declared.faults.OpenFault.TheVariants.{NoMemory, StoreFailed, Unusable}

-- A statement that the tables refuse, or a value that can't be read, means that the store isn't ours.
abbrev pub fault_of : Error → OpenFault
fault_of (SqliteFailure OutOfMemory) = NoMemory
fault_of (SqliteFailure NameTaken) = Unusable
fault_of (SqlInputError refused) = Unusable
fault_of (InvalidColumnIndex at) = Unusable
fault_of (InvalidColumnType at kind) = Unusable
fault_of (IntegralValueOutOfRange at) = Unusable
fault_of (Utf8Error at) = Unusable
fault_of _ = StoreFailed

-- the failure of a statement on the tables while a store is opened
abbrev pub fault_told : Failure → OpenFault
fault_told failure.NoMemory = NoMemory
fault_told failure.StoreFailed = StoreFailed

-- conversely, for tables that were checked before, the only fault besides want of memory is a failed store
abbrev pub failure_told : OpenFault → Failure
failure_told NoMemory = failure.NoMemory
failure_told _ = failure.StoreFailed

-- a failed store has such a cause
abbrev pub IsExcused : State → State → OpenFault → Type 0
IsExcused old new fault = fault ≡ StoreFailed → HasCause old new

-- the same, from an allowed state and without a limit on steps
abbrev pub FailsForCause : {X : Type 0} → (State → Type 0) → State → State → Result X OpenFault → Type 0
FailsForCause Starts old new result = HasCleanDisk new → Starts old → old.step_limit ≡ None → IfErr result (IsExcused old new)

-- a connection that was in no transaction is in none, whether the call failed or not
abbrev pub StaysOutside : State → State → Type 0
StaysOutside old new = old.in_transaction ≡ false → new.in_transaction ≡ false
