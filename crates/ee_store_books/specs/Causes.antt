-- When a store is ready, and why a call in a transaction fails.
use Rattle.std.specs.Prelude.{◌≡◌, None, Result, false, IfErr}
use Rattle.sqlite.specs.State.{State, HasCleanDisk}
use Rattle.ee_desk_model.specs.Repeats.{Content}
use Rattle.ee_store_tables.specs.Rows.{IsInside}
use Rattle.ee_store_tables.specs.declared.failures.Failure.{Failure}
use Rattle.ee_store_books.specs.Seen.{SeesContent}
use Rattle.ee_store_tables.specs.Statements.{IsExcused}

-- the connection is in no transaction, and its statements may take any number of steps
abbrev pub IsReady : State → Type 0
IsReady s = (s.in_transaction ≡ false) × (s.step_limit ≡ None)

-- in a transaction that sees an allowed content, without a limit on steps
abbrev pub FailsByCause : {X : Type 0} → State → State → Result X Failure → (Content → Type 0) → Type 0
FailsByCause old new result Allows = HasCleanDisk new → IsInside old → old.step_limit ≡ None → (content : Content) → SeesContent old content → Allows content → IfErr result (IsExcused old new)
