-- What a query shows of the content of a store.
-- Nothing is said of a store that a failing disk has shut.
use Rattle.std.specs.Prelude.{ℕ, Result, IfOk, IfErr}
use Rattle.sqlite.specs.State.{State, HasCleanDisk}
use Rattle.ee_desk_model.specs.Repeats.{Content}
use Rattle.ee_store_tables.specs.Rows.{HasRoom}
use Rattle.ee_store_books.specs.Seen.{HasContent}
use Rattle.ee_store_books.specs.Causes.{IsReady}
use Rattle.ee_store_tables.specs.Statements.{IsExcused}
use Rattle.ee_store_tables.specs.declared.failures.Failure.{Failure}

-- what is shown, whichever content the store has
abbrev pub ShowsContent : {X E : Type 0} → State → State → Result X E → (Content → X → Type 0) → Type 0
ShowsContent old new result Is = HasCleanDisk new → IfOk result (λ shown. (content : Content) → HasContent old content → Is content shown)

-- a content that the store has, it keeps
abbrev pub KeepsContent : State → State → Type 0
KeepsContent old new = HasCleanDisk new → (content : Content) → HasContent old content → HasContent new content

-- a store that has a content has room for as many rows as before
abbrev pub KeepsRoom : State → State → Type 0
KeepsRoom old new = HasCleanDisk new → (content : Content) → HasContent old content → (n : ℕ) → HasRoom n old → HasRoom n new

-- for a store that is ready and has a content
abbrev pub AnswersOrFails : {X : Type 0} → State → State → Result X Failure → Type 0
AnswersOrFails old new result = HasCleanDisk new → IsReady old → (content : Content) → HasContent old content → IfErr result (IsExcused old new)
