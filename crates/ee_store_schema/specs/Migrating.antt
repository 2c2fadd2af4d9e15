-- A store of version 1 that becomes one of version 2, with the same rows.
use Rattle.std.specs.Prelude.{◌≡◌, ◌≢◌, ◌⊎◌, ◌<◌, ◌^◌, ℕ, IsTrue, List, map, length, string_bytes}
use Rattle.std.specs.List.{AllByRecursion}
use Rattle.std.specs.FinMap.{entries}
use Rattle.sqlite.specs.State.{State}
use Rattle.sqlite.specs.Tree.{Trees}
use Rattle.ee_store_tables.specs.Rows.{Rows, ReplyRow, FitsRow, Stores, Rises}
pub use Rattle.ee_store_tables.specs.Rows.{with_version_of, with_version}
use Rattle.ee_store_schema.specs.declared.forms.Form.{Form}
use Rattle.ee_store_schema.specs.declared.forms.Form.TheVariants.{Current, First, Earliest}
use Rattle.ee_store_schema.specs.declared.answers.StoredAnswer.{StoredAnswer}
use Rattle.ee_store_schema.specs.Forms.{HadIn}

abbrev pub answer_entry : StoredAnswer → (ℕ × ℕ) × ReplyRow
answer_entry a = ((a.desk, a.number), record { act = string_bytes a.act; reply = string_bytes a.reply })

-- these are all kept replies, by desk and number
abbrev pub Lists : List StoredAnswer → Rows → Type 0
Lists all rows = entries rows.answers ≡ map answer_entry all

-- the rows of version 2 for rows of version 1: only the version changes
abbrev pub migrated : Rows → Rows
migrated rows = record rows { desk = with_version rows.desk 2 }

-- the rows of version 2 for the rows of a store in this form
abbrev pub become : Form → Rows → Rows
become Current rows = rows
become First rows = migrated rows
become Earliest rows = migrated rows

-- The store was of version 1, and the trees are of version 2, with its rows.
pub record Migrates (form : Form) (all : List StoredAnswer) (old : State) (db : Trees) : Type 0 where
  pub earlier : form ≢ Current
  pub was_open : IsTrue old.is_open
  pub stores : (rows : Rows) → HadIn form old rows → Lists all rows → Stores db (become form rows)

-- the kept replies fit rows under desk and number, and are fewer than the rowids
pub record AnswersFit (rows : Rows) : Type 0 where
  pub each : AllByRecursion (λ e. (e.0.0 < 2 ^ 63) × (e.0.1 < 2 ^ 63) × FitsRow e.1) (entries rows.answers)
  pub few : length (entries rows.answers) < 2 ^ 63

-- A store in the present form needs no migration; one of version 1 can be migrated if these are its replies, and they fit.
abbrev pub CanBecome : Form → List StoredAnswer → State → Type 0
CanBecome form all s = (form ≡ Current) ⊎ ((rows : Rows) × HadIn form s rows × Lists all rows × AnswersFit rows)

-- ---- the steps

-- this many more rows fit in `bonds` and in `paid`
abbrev pub BondsAndLinesHaveRoom : ℕ → Trees → Type 0
BondsAndLinesHaveRoom n db = Rises 1 n (db 2) × Rises 1 n (db 7)
