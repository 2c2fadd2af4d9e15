-- Definitions that private contracts alone cite; specs/Making.antt has the others.
use Rattle.std.specs.Prelude.{◌≡◌, ◌≢◌, IsTrue, List, ℕ, [], ◌∷◌, Some, None, Ok, Err, Result, IfErr, OnOk, true, false, not, slice_get, codes}
use Rattle.std.specs.List.{AllByRecursion, list_all}
use Rattle.sqlite.specs.Table.{Table}
use Rattle.sqlite.specs.Schema.{Schema}
use Rattle.sqlite_schema.specs.declared.schema.Index.{Index}
use Rattle.sqlite_resolve.specs.declared.compiled.Compiled.{Compiled}
use Rattle.sqlite_resolve.specs.declared.error.CompileError.{CompileError}
use Rattle.sqlite_resolve.specs.Compile.{index_defined_by, table_defined_by}
use Rattle.sqlite.specs.Command.{Command}
use Rattle.sqlite.specs.Command.TheVariants.{CreateTable, CreateIndex}
use Rattle.sqlite.specs.Change.{created, indexed, next_tree}
use Rattle.sqlite_catalog.specs.Change.{is_used, automatics, KeepsRows}
use Rattle.sqlite.specs.Effect.{IsDatabase}
use Rattle.sqlite_catalog.specs.Calls.{RefusesTable, IsLongTable, RefusesIndex, IsLongIndex}
use Rattle.sqlite_catalog.specs.declared.error.Refusal.{Refusal}
use Rattle.sqlite.specs.Tree.{Trees}
use Rattle.sqlite.specs.Does.{lacks_sequence}
use Rattle.sqlite.specs.Listing.{understood}
use Rattle.sqlite.specs.State.{State, HasCleanDisk, KeepsCommit, Survives, text_of}
use Rattle.sqlite_catalog.specs.Listing.{automatic}
use Rattle.ee_store_tables.specs.Tables.{counter_schema, desk, rates, bonds, tickets, paid, batches, extensions, answers, index_on}
use Rattle.ee_store_schema.specs.declared.faults.OpenFault.{OpenFault}
use Rattle.ee_store_schema.specs.declared.faults.OpenFault.TheVariants.{WrongVersion}
use Rattle.ee_store_schema.specs.Inner.Asking.{IsOneStatement}
use Rattle.ee_store_schema.specs.Forms.{replies}
use Rattle.ee_store_schema.specs.Inner.Forms.{SeesSchema}

-- with the desk, the rates and the bonds
abbrev pub register_tables : Schema
register_tables = record {
  tables = desk ∷ rates ∷ bonds ∷ [];
  indexes = automatic bonds 0 (1 ∷ 2 ∷ []) 3 ∷ index_on (codes "bonds_owner") 4 2 (5 ∷ 1 ∷ 2 ∷ []) ∷ [];
  views = [];
}

-- with the tickets and their lines, too
abbrev pub payment_tables : Schema
payment_tables = record {
  tables = desk ∷ rates ∷ bonds ∷ tickets ∷ paid ∷ [];
  indexes = automatic bonds 0 (1 ∷ 2 ∷ []) 3 ∷ index_on (codes "bonds_owner") 4 2 (5 ∷ 1 ∷ 2 ∷ []) ∷ index_on (codes "tickets_day") 6 5 (2 ∷ 0 ∷ [])
      ∷ automatic paid 0 (1 ∷ 2 ∷ []) 8 ∷ automatic paid 1 (3 ∷ 4 ∷ []) 9 ∷ [];
  views = [];
}

-- the tables of version 1, and the answers beside them
abbrev pub both_tables : Schema
both_tables = record {
  tables = desk ∷ rates ∷ bonds ∷ tickets ∷ paid ∷ batches ∷ replies ∷ extensions ∷ answers ∷ [];
  indexes = automatic bonds 0 (1 ∷ 2 ∷ []) 3 ∷ index_on (codes "bonds_owner") 4 2 (5 ∷ 1 ∷ 2 ∷ []) ∷ index_on (codes "tickets_day") 6 5 (2 ∷ 0 ∷ [])
      ∷ automatic paid 0 (1 ∷ 2 ∷ []) 8 ∷ automatic paid 1 (3 ∷ 4 ∷ []) 9 ∷ automatic answers 0 (1 ∷ 2 ∷ []) 14 ∷ [];
  views = [];
}

-- A transaction sees these tables, and no row in them.
abbrev pub SeesTables : State → Schema → Type 0
SeesTables s schema = IsTrue s.is_open → (s.now.schema ≡ schema) × AllByRecursion (λ t. s.now.trees t.tree ≡ []) schema.tables

-- a transaction has begun, and sees these tables without rows
abbrev pub IsAmid : Schema → State → Type 0
IsAmid schema s = IsTrue s.in_transaction × SeesTables s schema

-- the text is this one command, which shows nothing and doesn't read the time
abbrev pub IsCommand : List ℕ → Command → Result Compiled CompileError → Type 0
IsCommand text command (Ok c) = (c.command ≡ command) × (c.returning ≡ None) × (c.formats ≡ []) × (text_of text c ≡ text)
IsCommand text command (Err e) = ⊥

-- a transaction has begun over these tables, whatever their rows are
abbrev pub IsOver : Schema → State → Type 0
IsOver schema s = IsTrue s.in_transaction × SeesSchema schema s

-- one more table exists, which is empty, and the others have the same rows as before
pub record GainsTable (before after : Schema) (old new : State) : Type 0 where
  pub schema : new.now.schema ≡ after
  pub empty : new.now.trees (next_tree before) ≡ []
  pub others : KeepsRows before.tables old.now.trees new.now.trees
  pub sound : IsDatabase new.now

-- these tables are left, with the same rows as before
pub record LeavesTables (left : Schema) (old new : State) : Type 0 where
  pub schema : new.now.schema ≡ left
  pub others : KeepsRows left.tables old.now.trees new.now.trees
  pub sound : IsDatabase new.now

-- the table of answers, which is empty, replaces that of replies, and the other tables have the same rows as before
pub record ReplacesReplies (old new : State) : Type 0 where
  pub schema : new.now.schema ≡ counter_schema
  pub empty : new.now.trees 13 ≡ []
  pub others : KeepsRows (desk ∷ rates ∷ bonds ∷ tickets ∷ paid ∷ batches ∷ extensions ∷ []) old.now.trees new.now.trees
  pub sound : IsDatabase new.now

-- over the first schema, the text creates a table, which gives the second schema
pub record AddsTable (before : Schema) (text : List ℕ) (after : Schema) : Type 0 where
  pub command : IsCommand text CreateTable (understood before text)
  pub table : Table
  pub defined : table_defined_by text ≡ Ok table
  pub is : created before table ≡ after
  pub uncounted : lacks_sequence after ≡ false
  -- its name and those of its own indexes are free
  pub free : is_used before table.name ≡ false
  pub all_free : list_all (λ index. not (is_used before index.name)) (automatics table 0 0 table.uniques) ≡ true

-- the same for an index of the table at a position
pub record AddsIndex (before : Schema) (text : List ℕ) (after : Schema) : Type 0 where
  pub place : ℕ
  pub command : IsCommand text (CreateIndex place) (understood before text)
  pub table : Table
  pub over : slice_get before.tables place ≡ Some table
  pub index : Index
  pub defined : index_defined_by table text ≡ Ok index
  pub is : indexed before table index ≡ after
  pub free : is_used before index.name ≡ false

-- `sqlite` has no reason to refuse the table that the text creates
pub record TakesTable (before : Schema) (text : List ℕ) : Type 0 where
  pub statement : IsOneStatement text 0 (understood before text)
  pub taken : (reason : Refusal) → ¬ RefusesTable before text reason
  pub short : ¬ IsLongTable text

-- the same for an index of the table, if the tables have no rows
pub record TakesIndex (before : Schema) (text : List ℕ) (table : Table) : Type 0 where
  pub statement : IsOneStatement text 0 (understood before text)
  pub taken : (db : Trees) → AllByRecursion (λ t. db t.tree ≡ []) before.tables → (reason : Refusal) → ¬ RefusesIndex before db table text reason
  pub short : (db : Trees) → AllByRecursion (λ t. db t.tree ≡ []) before.tables → ¬ IsLongIndex db table text

-- What a call that makes tables in a transaction leaves. If it succeeds, the store is open, and the transaction goes on. It commits nothing, and never answers `WrongVersion`.
pub record MakesInside {X : Type 0} (old new : State) (result : Result X OpenFault) : Type 0 where
  pub still_open : HasCleanDisk new → OnOk result (IsTrue new.is_open)
  pub inside : HasCleanDisk new → OnOk result (IsTrue new.in_transaction)
  pub other : IfErr result (λ e. e ≢ WrongVersion)
  pub commit : HasCleanDisk new → KeepsCommit old new
  pub crash : Survives old new (λ _. ⊥)
