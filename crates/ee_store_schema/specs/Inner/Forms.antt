-- Definitions that private contracts alone cite; specs/Forms.antt has the others.
use Rattle.std.specs.Prelude.{◌≡◌, IsTrue}
use Rattle.sqlite.specs.Schema.{Schema}
use Rattle.sqlite.specs.State.{State}
use Rattle.ee_store_tables.specs.Rows.{Rows}
use Rattle.ee_store_schema.specs.declared.forms.Form.{Form}
use Rattle.ee_store_schema.specs.Forms.{IsIn, HoldsIn}

-- ---- the tables of a store

-- a transaction sees these tables
abbrev pub SeesSchema : Schema → State → Type 0
SeesSchema schema s = IsTrue s.is_open → s.now.schema ≡ schema

-- a transaction sees tables in this form
abbrev pub SeesForm : Form → State → Type 0
SeesForm form s = IsTrue s.is_open → IsIn form s.now.schema

-- a transaction sees tables of this program
abbrev pub HasOurTables : State → Type 0
HasOurTables s = (form : Form) × SeesForm form s

-- ---- the rows of a store

-- a transaction sees tables in this form with these rows
abbrev pub SeesIn : Form → State → Rows → Type 0
SeesIn form s rows = IsTrue s.is_open → IsIn form s.now.schema × HoldsIn form s.now.trees rows
