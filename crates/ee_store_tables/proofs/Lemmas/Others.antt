-- Tables of others, which follow the counter's, and what is kept of them.
use Rattle.std.proofs.Common.{◌≡◌, subst, sym}
use Rattle.sqlite.specs.Effect.{Database}
use Rattle.sqlite.specs.Schema.{Schema}
use Rattle.sqlite.specs.State.{State, KeepsCommit}
use Rattle.ee_store_tables.specs.Tables.{counter_schema, with_others, others_in, AreOthers, HasCounterTables, KeepsOthers}
use Rattle.ee_store_tables.specs.Statements.{LeavesOthers}
use Rattle.ee_store_tables.proofs.OtherLemmas
pub use Rattle.ee_store_tables.proofs.OtherLemmas.{none_besides}

-- ---- the counter's tables
-- alone
pub ours_alone : (schema : Schema) → schema ≡ counter_schema → HasCounterTables schema
ours_alone = OtherLemmas.ours_alone

-- with others' after them
pub ours_first : (schema others : Schema) → AreOthers others → schema ≡ with_others others → HasCounterTables schema
ours_first = OtherLemmas.ours_first

-- ---- what is kept
-- a database keeps its own
pub keeps_itself : (db : Database) → KeepsOthers db db
keeps_itself = OtherLemmas.keeps_itself

-- what is kept and then kept again
pub keeps_on : (a b c : Database) → KeepsOthers a b → KeepsOthers b c → KeepsOthers a c
keeps_on = OtherLemmas.keeps_on

-- without tables of others nothing is to be kept
pub keeps_none : (old new : Database) → others_in old.schema ≡ none_besides → others_in new.schema ≡ none_besides → KeepsOthers old new
keeps_none = OtherLemmas.keeps_none

-- a call that does nothing keeps what the last commit left
pub same_others : (s : State) → LeavesOthers s s
same_others s _ = OtherLemmas.keeps_itself s.committed

-- and so does one that commits nothing
pub kept_others : (old new : State) → KeepsCommit old new → LeavesOthers old new
kept_others old new keeps is_open = subst (λ (d : Database). KeepsOthers old.committed d) (sym (keeps.committed is_open)) (OtherLemmas.keeps_itself old.committed)
