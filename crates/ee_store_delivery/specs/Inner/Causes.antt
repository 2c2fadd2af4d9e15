-- Definitions that private contracts alone cite; specs/Causes.antt has the others.
use Rattle.std.specs.Prelude.{ℕ, Result, OnOk, ◌+◌}
use Rattle.sqlite.specs.State.{State, HasCleanDisk}
use Rattle.ee_desk_model.specs.Repeats.{Content}
use Rattle.ee_store_tables.specs.Rows.{Rows, Sees, HasRoom, IsInside}
use Rattle.ee_store_tables.specs.declared.failures.Failure.{Failure}
use Rattle.ee_store_books.specs.Seen.{SeesContent}

-- in a transaction that sees rows, room for `count` rows is taken
abbrev pub LeavesRoom : {X : Type 0} → State → State → Result X Failure → ℕ → Type 0
LeavesRoom old new result count = HasCleanDisk new → IsInside old → OnOk result ((rows : Rows) → Sees old rows → (n : ℕ) → HasRoom (count + n) old → HasRoom n new)

-- in a transaction that sees a content, a request takes room for at most 501 rows
abbrev pub LeavesRoomAfter : {X : Type 0} → State → State → Result X Failure → Type 0
LeavesRoomAfter old new result = HasCleanDisk new → IsInside old → OnOk result ((content : Content) → SeesContent old content → (n : ℕ) → HasRoom (501 + n) old → HasRoom n new)
