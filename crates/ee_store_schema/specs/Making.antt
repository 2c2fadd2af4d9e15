-- A store without tables, and the tables created in it: those of version 1, and from them those of version 2.
use Rattle.std.specs.Prelude.{◌≡◌, IsTrue, [], None}
use Rattle.std.specs.FinMap.{empty, insert}
use Rattle.sqlite.specs.Schema.{Schema}
use Rattle.sqlite.specs.State.{State}
use Rattle.ee_store_tables.specs.Rows.{Rows, DeskRow}

abbrev pub no_tables : Schema
no_tables = record { tables = []; indexes = []; views = [] }

-- the last commit left a store without tables
abbrev pub IsBlank : State → Type 0
IsBlank s = IsTrue s.is_open → s.committed.schema ≡ no_tables

-- a desk at which nothing was done yet
abbrev pub first_desk : DeskRow
first_desk = record { version = 2; day = None; last_day = None }

-- the rows of a new store
abbrev pub first_rows : Rows
first_rows = record { desk = insert empty 1 first_desk; rates = empty; bonds = empty; tickets = empty; paid = empty; batches = empty; extensions = empty; answers = empty }
