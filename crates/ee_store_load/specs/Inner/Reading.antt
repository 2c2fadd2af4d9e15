-- Definitions that private contracts alone cite; specs/Reading.antt has the others.
use Rattle.std.specs.Prelude.{◌≡◌, ◌≢◌, ℕ, Bool, true, false, IsTrue, List, [], ◌∷◌, map, pos, negsuc, None, Ok, Err, Result, IfErr, OnOk, All, IsPermutation}
use Rattle.sqlite.specs.declared.types.Value.TheVariants.{Int}
use Rattle.sqlite.specs.Order.{Row}
use Rattle.sqlite.specs.Tree.{Trees}
use Rattle.sqlite.specs.Schema.{Schema}
use Rattle.sqlite.specs.Term.{Term, lit}
use Rattle.sqlite_sql.specs.Term.{eval_all}
use Rattle.sqlite_value.specs.declared.keys.Key.{Key}
use Rattle.sqlite.specs.Query.{Query, IsAnswer, inner, end}
use Rattle.sqlite.specs.Program.{overlay}
use Rattle.sqlite_resolve.specs.declared.compiled.Compiled.{Compiled}
use Rattle.sqlite_resolve.specs.declared.error.CompileError.{CompileError}
use Rattle.sqlite.specs.Command.TheVariants.{Select}
use Rattle.sqlite.specs.Effect.{IsDatabase}
use Rattle.sqlite.specs.Listing.{understood, reads_listing}
use Rattle.sqlite.specs.State.{State, HasCleanDisk, IsUnchanged, KeepsCommit, Survives, Begins}
use Rattle.ee_store_schema.specs.declared.faults.OpenFault.{OpenFault}
use Rattle.ee_store_schema.specs.declared.faults.OpenFault.TheVariants.{WrongVersion}
use Rattle.ee_store_schema.specs.Faults.{StaysOutside}
use Rattle.ee_store_load.specs.Reading.{rises}

-- all rows of a table, each shown by these terms
abbrev pub whole_table : ℕ → List Term → List (Term × Key) → Query
whole_table tree terms order = record {
  from = inner tree end;
  filter = [];
  group = None;
  project = terms;
  distinct = false;
  collations = [];
  order = order;
  limit = lit (Int (negsuc 0));
  offset = lit (Int (pos 0));
}

abbrev pub IsQuery : Query → Result Compiled CompileError → Type 0
IsQuery query (Ok c) = (names : List (List ℕ)) × (c.command ≡ Select (record { lets = []; body = query }) names) × (c.returning ≡ None) × (c.formats ≡ [])
IsQuery query (Err e) = ⊥

-- over the schema, the text asks for the whole table, in this order
pub record AsksForAll (schema : Schema) (text : List ℕ) (tree : ℕ) (terms : List Term) (order : List (Term × Key)) : Type 0 where
  pub query : IsQuery (whole_table tree terms order) (understood schema text)
  pub unlisted : reads_listing schema text ≡ false

-- what the terms show of a row
abbrev pub shown_by : List Term → Row → Row
shown_by terms row = eval_all terms ([] ∷ row ∷ [])

-- the rows show the whole table, each row once
abbrev pub ShowsAll : Trees → ℕ → List Term → List Row → Type 0
ShowsAll db tree terms rows = IsPermutation (map (shown_by terms) (db tree)) rows

-- the tables obey the schema, as `sqlite` keeps them
abbrev pub IsSoundNow : State → Type 0
IsSoundNow s = IsTrue s.is_open → IsDatabase s.now

-- the text writes nothing, whatever tables there are
abbrev pub OnlyAsks : List ℕ → Type 0
OnlyAsks text = (schema : Schema) (c : Compiled) → understood schema text ≡ Ok c → c.returning ≡ None

-- an answer begins with rows of which some can't be read
abbrev pub ShowsUnreadable : (Row → Type 0) → List ℕ → State → Type 0
ShowsUnreadable IsReadable text s = (rows : List Row) × Begins text [] s rows × ¬ All IsReadable rows

-- Each row that the query shows can be read, and their keys rise.
abbrev pub CanBeRead : {A : Type 0} → (Row → Type 0) → (A → Row) → (A → A → Bool) → Trees → Query → Type 0
CanBeRead {A} IsReadable shown precedes db query = (rows : List Row) → IsAnswer query (overlay db []) [] rows → All IsReadable rows × ((found : List A) → rows ≡ map shown found → rises precedes found ≡ true)

-- What a call that reads whole tables leaves of a store. If it succeeds, nothing changed. It commits nothing, and never answers `WrongVersion`.
pub record OnlyLoads {X : Type 0} (old new : State) (result : Result X OpenFault) : Type 0 where
  pub same : HasCleanDisk new → OnOk result (IsUnchanged old new)
  pub kept : HasCleanDisk new → KeepsCommit old new
  pub outside : StaysOutside old new
  pub other : IfErr result (λ e. e ≢ WrongVersion)
  pub crash : Survives old new (λ _. ⊥)
