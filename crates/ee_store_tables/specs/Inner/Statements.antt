-- Definitions that private contracts alone cite; specs/Statements.antt has the others.
use Rattle.std.specs.Prelude.{◌≡◌, None, Result, IfErr}
use Rattle.sqlite.specs.declared.error.Error.{Error}
use Rattle.sqlite.specs.State.{State, HasCleanDisk}
use Rattle.ee_store_tables.specs.declared.failures.Failure.TheVariants.{NoMemory}
use Rattle.ee_store_tables.specs.Failures.{failure_of}
use Rattle.ee_store_tables.specs.Rows.{IsInside}
use Rattle.ee_store_tables.specs.Statements.{IsExcused}

-- ---- why a statement fails

-- a query that fails has a cause, whatever rows it finds
abbrev pub QueryFailsByCause : {X : Type 0} → State → State → Result X Error → Type 0
QueryFailsByCause old new result = HasCleanDisk new → IsInside old → old.step_limit ≡ None → IfErr result (λ e. IsExcused old new (failure_of e))

-- only want of memory
abbrev pub IsMemory : Error → Type 0
IsMemory e = failure_of e ≡ NoMemory
