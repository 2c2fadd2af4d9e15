-- The forms that the tables of a store have, and the rows of a store in each form. Tables of others may follow those of version 2.
-- Nothing is said of a store that a failing disk has shut.
use Rattle.std.specs.Prelude.{◌≡◌, ℕ, [], ◌∷◌, IsTrue, codes, map}
use Rattle.std.specs.Ordering.{nat_cmp}
use Rattle.std.specs.FinMap.{FinMap, empty, entries, from_sorted}
use Rattle.sqlite.specs.Schema.{Schema}
use Rattle.sqlite.specs.Table.{Table}
use Rattle.sqlite.specs.Tree.{Trees}
use Rattle.sqlite.specs.State.{State}
use Rattle.sqlite_catalog.specs.Listing.{IsSound, automatic}
use Rattle.ee_store_tables.specs.Tables.{HasCounterTables, keyed_table, number_column, text_column, index_on, desk, rates, bonds, tickets, paid, batches, extensions}
use Rattle.ee_store_tables.specs.Keyed.{pair_cmp, HoldsMap, HoldsPairs}
use Rattle.ee_store_tables.specs.Rows.{Rows, ReplyRow, Holds, Stores, desk_columns, rate_columns, bond_columns, ticket_columns, paid_columns, batch_columns, reply_columns}
use Rattle.ee_store_schema.specs.declared.forms.Form.{Form}
use Rattle.ee_store_schema.specs.declared.forms.Form.TheVariants.{Current, First, Earliest}

-- the replies of version 1, under a number alone
abbrev pub replies : Table
replies = keyed_table (codes "replies") 11 (number_column (codes "number") ∷ text_column (codes "act") ∷ text_column (codes "reply") ∷ [])

-- the tables of version 1
abbrev pub first_tables : Schema
first_tables = record {
  tables = desk ∷ rates ∷ bonds ∷ tickets ∷ paid ∷ batches ∷ replies ∷ extensions ∷ [];
  indexes = automatic bonds 0 (1 ∷ 2 ∷ []) 3 ∷ index_on (codes "bonds_owner") 4 2 (5 ∷ 1 ∷ 2 ∷ []) ∷ index_on (codes "tickets_day") 6 5 (2 ∷ 0 ∷ [])
      ∷ automatic paid 0 (1 ∷ 2 ∷ []) 8 ∷ automatic paid 1 (3 ∷ 4 ∷ []) 9 ∷ [];
  views = [];
}

-- the tables of a store made before extensions existed: all except theirs
abbrev pub earliest_tables : Schema
earliest_tables = record first_tables { tables = desk ∷ rates ∷ bonds ∷ tickets ∷ paid ∷ batches ∷ replies ∷ [] }

-- a schema has the tables of this form
abbrev pub IsIn : Form → Schema → Type 0
IsIn Current schema = HasCounterTables schema
IsIn First schema = schema ≡ first_tables
IsIn Earliest schema = schema ≡ earliest_tables

-- the version in the desk's row of tables in this form
abbrev pub version_of : Form → ℕ
version_of Current = 2
version_of First = 1
version_of Earliest = 1

-- ---- the rows in the trees

-- replies under a number alone belong to the first desk
abbrev pub at_first_desk : FinMap nat_cmp ReplyRow → FinMap pair_cmp ReplyRow
at_first_desk kept = from_sorted (map (λ e. ((0, e.0), e.1)) (entries kept))

-- the replies of version 1, and the same under desk and number
pub record HoldsReplies (db : Trees) (answers : FinMap pair_cmp ReplyRow) : Type 0 where
  pub kept : FinMap nat_cmp ReplyRow
  pub held : HoldsMap reply_columns (db 11) kept
  pub first : answers ≡ at_first_desk kept

-- the tables of version 1 hold these rows
pub record HoldsFirst (db : Trees) (rows : Rows) : Type 0 where
  pub desk : HoldsMap desk_columns (db 0) rows.desk
  pub rates : HoldsMap rate_columns (db 1) rows.rates
  pub bonds : HoldsPairs bond_columns (db 2) rows.bonds
  pub tickets : HoldsMap ticket_columns (db 5) rows.tickets
  pub paid : HoldsPairs paid_columns (db 7) rows.paid
  pub batches : HoldsMap batch_columns (db 10) rows.batches
  pub answers : HoldsReplies db rows.answers
  pub extensions : HoldsMap rate_columns (db 12) rows.extensions

-- the seven tables hold these rows, which contain no extension
pub record HoldsEarliest (db : Trees) (rows : Rows) : Type 0 where
  pub desk : HoldsMap desk_columns (db 0) rows.desk
  pub rates : HoldsMap rate_columns (db 1) rows.rates
  pub bonds : HoldsPairs bond_columns (db 2) rows.bonds
  pub tickets : HoldsMap ticket_columns (db 5) rows.tickets
  pub paid : HoldsPairs paid_columns (db 7) rows.paid
  pub batches : HoldsMap batch_columns (db 10) rows.batches
  pub answers : HoldsReplies db rows.answers
  pub none : rows.extensions ≡ empty

abbrev pub HoldsIn : Form → Trees → Rows → Type 0
HoldsIn Current db rows = Holds db rows
HoldsIn First db rows = HoldsFirst db rows
HoldsIn Earliest db rows = HoldsEarliest db rows

-- the trees list the tables of version 1 and obey them, as `sqlite` keeps them, and hold these rows
pub record StoresFirst (db : Trees) (rows : Rows) : Type 0 where
  pub sound : IsSound first_tables db
  pub holds : HoldsFirst db rows

-- the same for the seven tables
pub record StoresEarliest (db : Trees) (rows : Rows) : Type 0 where
  pub sound : IsSound earliest_tables db
  pub holds : HoldsEarliest db rows

abbrev pub StoresIn : Form → Trees → Rows → Type 0
StoresIn Current db rows = Stores db rows
StoresIn First db rows = StoresFirst db rows
StoresIn Earliest db rows = StoresEarliest db rows

-- ---- the tables of a store

-- the last commit left tables in this form
abbrev pub HasForm : Form → State → Type 0
HasForm form s = IsTrue s.is_open → IsIn form s.committed.schema

-- the last commit left tables of this program
abbrev pub IsOurs : State → Type 0
IsOurs s = (form : Form) × HasForm form s

-- ---- the rows of a store

-- the last commit left tables in this form with these rows
abbrev pub HadIn : Form → State → Rows → Type 0
HadIn form s rows = IsTrue s.is_open → IsIn form s.committed.schema × HoldsIn form s.committed.trees rows
