-- Definitions that private contracts alone cite; specs/Whole.antt has the others.
use Rattle.std.specs.Prelude.{◌≡◌, ◌≢◌, List, [], map}
use Rattle.std.specs.FinMap.{FinMap, entries}
use Rattle.sqlite.specs.Tree.{Trees}
use Rattle.sqlite.specs.State.{State}
use Rattle.ee_store_tables.specs.Keyed.{pair_cmp, HoldsMap, HoldsPairs}
use Rattle.ee_store_tables.specs.Rows.{ReplyRow, desk_columns, rate_columns, bond_columns, ticket_columns, paid_columns, batch_columns, reply_columns}
use Rattle.ee_store_schema.specs.declared.answers.StoredAnswer.{StoredAnswer}
use Rattle.ee_store_schema.specs.declared.forms.Form.{Form}
use Rattle.ee_store_schema.specs.declared.forms.Form.TheVariants.{Current, First, Earliest}
use Rattle.ee_store_schema.specs.Forms.{HoldsReplies}
use Rattle.ee_store_schema.specs.Inner.Forms.{SeesForm}
use Rattle.ee_store_schema.specs.Migrating.{answer_entry}
use Rattle.ee_store_load.specs.declared.entries.StoredRate.{StoredRate}
use Rattle.ee_store_load.specs.declared.tables.KeptReplies.{KeptReplies}
use Rattle.ee_store_load.specs.declared.whole.AllRows.{AllRows}
use Rattle.ee_store_load.specs.declared.whole.RegisterRows.{RegisterRows}
use Rattle.ee_store_load.specs.declared.whole.PaymentRows.{PaymentRows}
use Rattle.ee_store_load.specs.declared.whole.KeptRows.{KeptRows}
use Rattle.ee_store_load.specs.Shown.{desk_map, rate_map, bond_map, ticket_map, line_map, batch_map, answer_map, desk_entry, rate_entry, bond_entry, ticket_entry, line_entry, batch_entry}
use Rattle.ee_store_load.specs.Whole.{AreTested}

-- The entries of each map are the rows that were read, in order.
pub record ListsAll (all : AllRows) : Type 0 where
  pub desk : entries (desk_map all.desk.items) ≡ map desk_entry all.desk.items
  pub rates : entries (rate_map all.rates.items) ≡ map rate_entry all.rates.items
  pub bonds : entries (bond_map all.bonds.items) ≡ map bond_entry all.bonds.items
  pub tickets : entries (ticket_map all.tickets.items) ≡ map ticket_entry all.tickets.items
  pub lines : entries (line_map all.lines.items) ≡ map line_entry all.lines.items
  pub batches : entries (batch_map all.batches.items) ≡ map batch_entry all.batches.items
  pub extensions : entries (rate_map all.extensions.items) ≡ map rate_entry all.extensions.items
  pub earlier : entries (answer_map all.replies.earlier.items) ≡ map answer_entry all.replies.earlier.items

-- ---- parts of the whole

pub record ListsRegister (part : RegisterRows) : Type 0 where
  pub desk : entries (desk_map part.desk.items) ≡ map desk_entry part.desk.items
  pub rates : entries (rate_map part.rates.items) ≡ map rate_entry part.rates.items
  pub bonds : entries (bond_map part.bonds.items) ≡ map bond_entry part.bonds.items

pub record ListsPayments (part : PaymentRows) : Type 0 where
  pub tickets : entries (ticket_map part.tickets.items) ≡ map ticket_entry part.tickets.items
  pub lines : entries (line_map part.lines.items) ≡ map line_entry part.lines.items

pub record ListsRecords (part : KeptRows) : Type 0 where
  pub batches : entries (batch_map part.batches.items) ≡ map batch_entry part.batches.items
  pub earlier : entries (answer_map part.replies.earlier.items) ≡ map answer_entry part.replies.earlier.items

pub record HoldsRegister (db : Trees) (part : RegisterRows) : Type 0 where
  pub desk : HoldsMap desk_columns (db 0) (desk_map part.desk.items)
  pub rates : HoldsMap rate_columns (db 1) (rate_map part.rates.items)
  pub bonds : HoldsPairs bond_columns (db 2) (bond_map part.bonds.items)

pub record HoldsPayments (db : Trees) (part : PaymentRows) : Type 0 where
  pub tickets : HoldsMap ticket_columns (db 5) (ticket_map part.tickets.items)
  pub lines : HoldsPairs paid_columns (db 7) (line_map part.lines.items)

-- a transaction sees tables of version 1
abbrev pub HasFirstTables : State → Type 0
HasFirstTables s = (form : Form) × (form ≢ Current) × SeesForm form s

-- the kept replies, in the table of this form
abbrev pub HoldsKept : Form → Trees → FinMap pair_cmp ReplyRow → Type 0
HoldsKept Current db answers = HoldsPairs reply_columns (db 13) answers
HoldsKept First db answers = HoldsReplies db answers
HoldsKept Earliest db answers = HoldsReplies db answers

-- the table of this form holds exactly these kept replies, and they were tested
pub record HoldsTested (Passes : StoredAnswer → Type 0) (form : Form) (db : Trees) (read : KeptReplies) : Type 0 where
  pub kept : List StoredAnswer
  pub tested : AreTested Passes form read kept
  pub held : HoldsKept form db (answer_map kept)

pub record HoldsRecords (Passes : StoredAnswer → Type 0) (form : Form) (db : Trees) (part : KeptRows) : Type 0 where
  pub batches : HoldsMap batch_columns (db 10) (batch_map part.batches.items)
  pub replies : HoldsTested Passes form db part.replies

-- the rows of the table of extensions; none if it is missing
abbrev pub HoldsExtensions : Form → Trees → List StoredRate → Type 0
HoldsExtensions Current db all = HoldsMap rate_columns (db 12) (rate_map all)
HoldsExtensions First db all = HoldsMap rate_columns (db 12) (rate_map all)
HoldsExtensions Earliest db all = all ≡ []
