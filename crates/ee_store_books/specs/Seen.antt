-- The content of a store, and what a call in a transaction finds of it.
-- Nothing is said of a store that a failing disk has shut.
use Rattle.std.specs.Prelude.{ℕ, Result, IfOk, OnOk}
use Rattle.sqlite.specs.Tree.{Trees}
use Rattle.sqlite.specs.State.{State, HasCleanDisk}
use Rattle.ee_desk_model.specs.Repeats.{Content}
use Rattle.ee_store_tables.specs.Rows.{Rows, Stores, Sees, Has, HasRoom, IsInside}
use Rattle.ee_store_tables.specs.Statements.{StaysOpen, StaysInside, CommitsNothing, LeavesNoMore}
use Rattle.ee_store_books.specs.Standing.{rows_of, IsRight}

-- The content that a store's trees represent. They list only the counter's tables, so that an open reads just these.
pub record StandsFor (db : Trees) (content : Content) : Type 0 where
  pub right : IsRight content
  pub stores : Stores db (rows_of content)

-- the last commit left rows that represent the content
pub record HasContent (s : State) (content : Content) : Type 0 where
  pub right : IsRight content
  pub rows : Has s (rows_of content)

-- a transaction sees rows that represent the content
pub record SeesContent (s : State) (content : Content) : Type 0 where
  pub right : IsRight content
  pub rows : Sees s (rows_of content)

-- the result of a look-up in a transaction, whichever content it sees
abbrev pub FindsIn : {X E : Type 0} → State → State → Result X E → (Content → X → Type 0) → Type 0
FindsIn old new result Shows = HasCleanDisk new → IsInside old → IfOk result (λ found. (content : Content) → SeesContent old content → Shows content found)

-- these rows are still seen, and there is as much room for more
abbrev pub StaysSeen : State → State → Rows → Type 0
StaysSeen old new rows = Sees new rows × ((n : ℕ) → HasRoom n old → HasRoom n new)

-- the rows that are seen don't change, nor does the room
abbrev pub LeavesRows : {X E : Type 0} → State → State → Result X E → Type 0
LeavesRows old new result = HasCleanDisk new → IsInside old → OnOk result ((rows : Rows) → Sees old rows → StaysSeen old new rows)

-- what a look-up in a transaction leaves: nothing is written
pub record OnlyReads {X E : Type 0} (old new : State) (result : Result X E) : Type 0 where
  pub still_open : StaysOpen old new result
  pub inside : StaysInside old new result
  pub rows : LeavesRows old new result
  pub commit : CommitsNothing old new
  pub crash : LeavesNoMore old new
