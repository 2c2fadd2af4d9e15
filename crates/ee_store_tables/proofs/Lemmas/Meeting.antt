-- What lies in trees, and what a connection over them has: the trees list one schema.
use Rattle.std.proofs.Common.{IsTrue, sym, subst}
use Rattle.sqlite.specs.Effect.{IsDatabase}
use Rattle.sqlite.specs.State.{State}
use Rattle.sqlite_trees.specs.Objects.{catalog_tree}
use Rattle.sqlite_catalog.specs.Listing.{IsSound}
use Rattle.sqlite_catalog.proofs.ReadLemmas.{lists_once}
use Rattle.ee_store_tables.specs.Tables.{HasCounterTables}
use Rattle.ee_store_tables.specs.Rows.{Rows, Has, Sees, Stores}

-- trees that list the counter's tables are read with just these, whoever opens them
pub has_stored : (s : State) (rows : Rows) → (IsTrue s.is_open → IsDatabase s.committed) → Stores s.committed.trees rows → Has s rows
has_stored s rows live stores is_open =
    (subst HasCounterTables (sym (lists_once (s.committed.trees catalog_tree) s.committed.schema stores.schema (live is_open).lists stores.sound.lists)) stores.tables, stores.holds)

-- what the last commit left lies in its trees
pub stored_has : (s : State) (rows : Rows) → IsTrue s.is_open → IsDatabase s.committed → Has s rows → Stores s.committed.trees rows
stored_has s rows is_open sound has = let it = has is_open in record { schema = s.committed.schema; tables = it.0; sound = sound; holds = it.1 }

-- what a transaction sees lies in its trees
pub stored_sees : (s : State) (rows : Rows) → IsTrue s.is_open → IsDatabase s.now → Sees s rows → Stores s.now.trees rows
stored_sees s rows is_open sound sees = let it = sees is_open in record { schema = s.now.schema; tables = it.0; sound = sound; holds = it.1 }
