-- Definitions that private contracts alone cite; specs/Migrating.antt has the others.
use Rattle.std.specs.Prelude.{◌≡◌, ◌<◌, ◌^◌, ⊤, ℕ, IsTrue, IfErr, List, [], ◌∷◌, None, Result}
use Rattle.std.specs.FinMap.{FinMap, get, insert, empty}
use Rattle.sqlite.specs.Effect.{IsDatabase}
use Rattle.sqlite.specs.State.{State, HasCleanDisk}
use Rattle.ee_store_tables.specs.Rows.{Rows, ReplyRow, FitsRow, Rises}
use Rattle.ee_store_tables.specs.Keyed.{pair_cmp}
use Rattle.ee_store_tables.specs.Statements.{IsExcused}
use Rattle.ee_store_tables.specs.declared.failures.Failure.{Failure}
use Rattle.ee_store_schema.specs.declared.forms.Form.{Form}
use Rattle.ee_store_schema.specs.Forms.{HasForm}
use Rattle.ee_store_schema.specs.Inner.Forms.{SeesForm}

-- ---- the steps

-- a transaction has begun on a store in this form, and sees its tables
abbrev pub BegunIn : Form → State → Type 0
BegunIn form s = SeesForm form s × HasForm form s

-- without the replies
abbrev pub unanswered : Rows → Rows
unanswered rows = record rows { answers = empty }

-- with the replies written in order
abbrev pub copied : FinMap pair_cmp ReplyRow → List ((ℕ × ℕ) × ReplyRow) → FinMap pair_cmp ReplyRow
copied answers [] = answers
copied answers (e ∷ es) = copied (insert answers e.0 e.1) es

-- a reply can be written: its desk and number are new, and it fits a row
abbrev pub CanAdd : FinMap pair_cmp ReplyRow → (ℕ × ℕ) × ReplyRow → Type 0
CanAdd answers e = (e.0.0 < 2 ^ 63) × (e.0.1 < 2 ^ 63) × (get answers e.0 ≡ None) × FitsRow e.1

-- the same for each reply in order
abbrev pub CanAddAll : FinMap pair_cmp ReplyRow → List ((ℕ × ℕ) × ReplyRow) → Type 0
CanAddAll answers [] = ⊤
CanAddAll answers (e ∷ es) = CanAdd answers e × CanAddAll (insert answers e.0 e.1) es

-- what a transaction sees obeys the tables, and there are rowids for this many more replies
abbrev pub HasPlace : ℕ → State → Type 0
HasPlace n s = IsTrue s.is_open → IsDatabase s.now × Rises 1 n (s.now.trees 13)

-- from an allowed state, without a limit on steps, it fails only for want of memory or a cause
abbrev pub FailsIn : {X : Type 0} → (State → Type 0) → State → State → Result X Failure → Type 0
FailsIn Starts old new result = HasCleanDisk new → Starts old → old.step_limit ≡ None → IfErr result (IsExcused old new)
