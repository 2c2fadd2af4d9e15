-- A statement, and when `sqlite` never refuses it.
use Rattle.std.specs.Prelude.{◌≡◌, ◌≤◌, length, ℕ, List, [], false, None, Ok, Err, Result}
use Rattle.sqlite.specs.Order.{Row}
use Rattle.sqlite.specs.Tree.{Trees}
use Rattle.sqlite.specs.Schema.{Schema}
use Rattle.sqlite_resolve.specs.declared.compiled.Compiled.{Compiled}
use Rattle.sqlite_resolve.specs.declared.error.CompileError.{CompileError}
use Rattle.sqlite.specs.declared.error.Error.{Error}
use Rattle.sqlite.specs.Effect.{RefusesToRead}
use Rattle.sqlite.specs.Listing.{understood, reads_listing}

-- the text is one statement with this number of parameters, which doesn't show what it writes and doesn't read the time
abbrev pub IsOneStatement : List ℕ → ℕ → Result Compiled CompileError → Type 0
IsOneStatement text count (Ok c) = (length text ≤ c.tail) × (count ≡ length c.names) × (c.returning ≡ None) × (c.formats ≡ [])
IsOneStatement text count (Err e) = ⊥

abbrev pub NeverRefuses : Schema → Row → Result Compiled CompileError → Type 0
NeverRefuses schema params (Ok c) = (trees : Trees) (e : Error) → ¬ RefusesToRead None c.command (record { schema = schema; trees = trees }) params e
NeverRefuses schema params (Err e) = ⊥

-- without a limit on steps, `sqlite` refuses the query for no rows of these tables
pub record IsNeverRefused (schema : Schema) (text : List ℕ) (params : Row) : Type 0 where
  pub statement : IsOneStatement text (length params) (understood schema text)
  pub accepted : NeverRefuses schema params (understood schema text)
  pub unlisted : reads_listing schema text ≡ false
