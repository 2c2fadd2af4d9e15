-- What statements on the counter's tables do and show, whatever tables of others follow.
use Rattle.std.proofs.Common.{◌≡◌, ℕ, List, false, None, Ok}
use Rattle.sqlite.specs.Order.{Row}
use Rattle.sqlite.specs.Schema.{Schema}
use Rattle.sqlite.specs.Command.{Command}
use Rattle.sqlite.specs.Effect.{Reads}
use Rattle.sqlite.specs.Listing.{understood, reads_listing}
use Rattle.sqlite.specs.State.{State, Runs, Executes, Shown}
use Rattle.sqlite.proofs.Callers.{IsPlain, command_of, statement_of, runs_as, reads_as}
use Rattle.ee_store_tables.specs.Tables.{with_others, others_in, HasCounterTables}

module _ (sql : List ℕ) (params : Row) (old new : State) (has : HasCounterTables old.now.schema) (command : Command) where
  pub runs_ours : ((others : Schema) → command_of (understood (with_others others) sql) ≡ command) → ((others : Schema) → IsPlain (understood (with_others others) sql))
      → (count : ℕ) → Executes sql params old new (Ok count) → Runs old new None command (statement_of sql (understood (with_others (others_in old.now.schema)) sql)) params count
  runs_ours is plain = let others = others_in old.now.schema in runs_as sql params old new (with_others others) has.ours command (is others) (plain others)

  pub reads_ours : ((others : Schema) → (command_of (understood (with_others others) sql) ≡ command) × (reads_listing (with_others others) sql ≡ false)) → ((others : Schema) → IsPlain (understood (with_others others) sql))
      → (rows : List Row) → Shown sql params old new rows → Reads command old.now params rows
  reads_ours is plain = let others = others_in old.now.schema in reads_as sql params old new (with_others others) has.ours command (is others).0 (plain others) (is others).1
