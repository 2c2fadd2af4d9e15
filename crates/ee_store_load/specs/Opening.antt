-- Whether a store has tables, their version, and which rows can be read.
use Rattle.std.specs.Prelude.{◌≡◌, ◌≢◌, ℕ, pos, IsTrue, List, [], ◌∷◌, Some, codes}
use Rattle.std.specs.Ordering.{nat_cmp}
use Rattle.std.specs.FinMap.{FinMap, get}
use Rattle.sqlite.specs.declared.types.Value.TheVariants.{Int}
use Rattle.sqlite.specs.Order.{Row, column}
use Rattle.sqlite.specs.Table.{Table}
use Rattle.sqlite.specs.State.{State, Begins}
use Rattle.ee_store_tables.specs.Keyed.{HoldsMap}
use Rattle.ee_store_tables.specs.Tables.{desk}
use Rattle.ee_store_tables.specs.Rows.{Rows, DeskRow, number, desk_columns}
use Rattle.ee_store_schema.specs.declared.faults.OpenFault.{OpenFault}
use Rattle.ee_store_schema.specs.declared.faults.OpenFault.TheVariants.{WrongVersion, Unusable}
use Rattle.ee_store_schema.specs.declared.forms.Form.{Form}
use Rattle.ee_store_schema.specs.Forms.{version_of}
use Rattle.ee_store_schema.specs.Making.{no_tables}
use Rattle.ee_store_load.specs.Shown.{AreBonds, AreWritten}

-- the last commit left a table, an index or a view
abbrev pub HasTables : State → Type 0
HasTables s = IsTrue s.is_open → s.committed.schema ≢ no_tables

-- the desk's row exists, and has the version of this form
abbrev pub IsOfForm : Form → Rows → Type 0
IsOfForm form rows = (desk : DeskRow) × (get rows.desk 1 ≡ Some desk) × (desk.version ≡ version_of form)

-- the desk's row exists, and has neither version that this program knows
abbrev pub IsOther : FinMap nat_cmp DeskRow → Type 0
IsOther rows = (desk : DeskRow) × (get rows 1 ≡ Some desk) × (desk.version ≢ 1) × (desk.version ≢ 2)

abbrev pub IsOtherVersion : Rows → Type 0
IsOtherVersion rows = IsOther rows.desk

-- The desk's row exists and has the version of this form, each row of the register shows a bond, and each text is UTF-8, as this program writes it.
pub record AreReadable (form : Form) (rows : Rows) : Type 0 where
  pub desk : IsOfForm form rows
  pub bonds : AreBonds rows.bonds
  pub texts : AreWritten rows.answers

-- ---- the version where the tables may be others

abbrev pub version_text : List ℕ
version_text = codes "SELECT version FROM desk WHERE id = ?1"

abbrev pub given_id : Row
given_id = Int (pos 1) ∷ []

-- an answer of `sqlite` to that query, whatever tables there are, begins with a version that this program doesn't know
pub record ShowsOther (s : State) : Type 0 where
  pub row : Row
  pub first : Begins version_text given_id s (row ∷ [])
  pub version : ℕ
  pub named : column row 0 ≡ number version
  pub unknown : (version ≢ 1) × (version ≢ 2)

-- The first table is the desk, in the first tree, and holds these rows, whatever other tables, indexes and views there are.
pub record SeesDesk (s : State) (rows : FinMap nat_cmp DeskRow) : Type 0 where
  pub more : List Table
  pub first : s.now.schema.tables ≡ desk ∷ more
  pub held : HoldsMap desk_columns (s.now.trees 0) rows

-- The fault of a store whose tables aren't those of this program. `WrongVersion` only if `sqlite` shows another version. If the
-- first table is the desk: `WrongVersion` if its row has another version, and `Unusable` otherwise.
pub record IsTold (s : State) (fault : OpenFault) : Type 0 where
  pub shown : fault ≡ WrongVersion → ShowsOther s
  pub other : fault ≡ WrongVersion → (rows : FinMap nat_cmp DeskRow) → SeesDesk s rows → IsOther rows
  pub tested : fault ≡ Unusable → (rows : FinMap nat_cmp DeskRow) → SeesDesk s rows → ¬ IsOther rows
