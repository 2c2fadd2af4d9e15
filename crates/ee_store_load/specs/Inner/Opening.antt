-- Definitions that private contracts alone cite; specs/Opening.antt has the others.
use Rattle.std.specs.Prelude.{◌≡◌, ◌<◌, ℕ, List, [], ◌∷◌, Some, None, option_map}
use Rattle.std.specs.Option.{option_to_list}
use Rattle.std.specs.Ordering.{nat_cmp}
use Rattle.std.specs.FinMap.{FinMap, get}
use Rattle.sqlite.specs.Order.{Row}
use Rattle.sqlite.specs.Table.{Table}
use Rattle.sqlite_schema.specs.declared.schema.Index.{Index}
use Rattle.sqlite_schema.specs.declared.schema.View.{View}
use Rattle.ee_store_tables.specs.Tables.{desk, rates, bonds, tickets, paid, batches}
use Rattle.ee_store_tables.specs.Rows.{Rows, DeskRow, number}

-- the tables that every form begins with
abbrev pub common_tables : List Table
common_tables = desk ∷ rates ∷ bonds ∷ tickets ∷ paid ∷ batches ∷ []

-- a table of others has a tree behind the program's, and no foreign key
abbrev pub IsOtherTable : Table → Type 0
IsOtherTable table = (14 < table.tree) × (table.references ≡ [])

-- an index of others is on such a table
abbrev pub IsOtherIndex : Index → Type 0
IsOtherIndex index = 14 < index.table

-- a view stands for no table that is kept as it is
abbrev pub IsView : View → Type 0
IsView view = view.foreign ≡ None

-- the version, as a query of the desk's row shows it
abbrev pub version_shown : DeskRow → Row
version_shown desk = number desk.version ∷ []

abbrev pub versions_of : FinMap nat_cmp DeskRow → List Row
versions_of desk = option_to_list (option_map version_shown (get desk 1))

abbrev pub versions_in : Rows → List Row
versions_in rows = versions_of rows.desk

-- the desk's row exists, and has this version
abbrev pub Names : ℕ → Rows → Type 0
Names version rows = (desk : DeskRow) × (get rows.desk 1 ≡ Some desk) × (version ≡ desk.version)
