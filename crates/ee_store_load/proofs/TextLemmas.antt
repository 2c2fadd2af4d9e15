-- What a text is compiled to, over whichever tables and indexes stand behind the six tables that each form begins with.
use Rattle.std.proofs.Common.{◌≡◌, inl, inr, ℕ, List, [], ◌∷◌, false, true≢false, length, None, Ok, refl, sym, ap, subst, arith}
use Rattle.std.specs.Prelude.{if◌then◌else◌, drop}
use Rattle.sqlite.specs.Order.{Row}
use Rattle.sqlite.specs.Term.{Term}
use Rattle.sqlite.specs.Table.{Table}
use Rattle.sqlite.specs.Schema.{Schema}
use Rattle.sqlite.specs.Query.{Query}
use Rattle.sqlite_schema.specs.declared.schema.Index.{Index}
use Rattle.sqlite_schema.specs.declared.schema.View.{View}
use Rattle.sqlite_value.specs.declared.keys.Key.{Key}
use Rattle.sqlite.specs.Command.TheVariants.{Select}
use Rattle.sqlite.specs.Tree.{Trees}
use Rattle.sqlite_sql.specs.Program.{ProgramOverflows}
use Rattle.sqlite_resolve.specs.declared.compiled.Compiled.{Compiled}
use Rattle.sqlite_resolve.specs.Compile.{compiled}
use Rattle.sqlite.specs.Effect.{IsShown}
use Rattle.sqlite.specs.Listing.{understood, reads_listing, misses_table, if_select, listing_schema}
use Rattle.ee_store_tables.specs.Tables.{with_others, others_in, desk, rates, bonds, tickets, paid, batches, extensions, answers}
use Rattle.ee_store_schema.specs.declared.forms.Form.{Form}
use Rattle.ee_store_schema.specs.declared.forms.Form.TheVariants.{Current, First, Earliest}
use Rattle.ee_store_schema.specs.Forms.{first_tables, replies}
use Rattle.ee_store_schema.specs.Inner.Asking.{IsOneStatement, NeverRefuses, IsNeverRefused}
use Rattle.ee_store_schema.proofs.Lemmas.Forms.{tables_in}
use Rattle.ee_store_load.specs.Inner.Reading.{whole_table, IsQuery, AsksForAll}

-- the six tables, and then others
abbrev pub begun_with : List Table → List Index → List View → Schema
begun_with more indexes views = record { tables = desk ∷ rates ∷ bonds ∷ tickets ∷ paid ∷ batches ∷ more; indexes = indexes; views = views }

-- what holds of each of these holds of each form, whatever follows it
pub of_each : (P : Schema → Type 0) → ((more : List Table) (indexes : List Index) (views : List View) → P (begun_with more indexes views)) → (form : Form) (schema : Schema) → P (tables_in form schema)
of_each P all Current schema = all (extensions ∷ answers ∷ drop 8 schema.tables) (with_others (others_in schema)).indexes schema.views
of_each P all First schema = all (replies ∷ extensions ∷ []) first_tables.indexes []
of_each P all Earliest schema = all (replies ∷ []) first_tables.indexes []

-- a query alone, with the names of its columns and of its parameters
abbrev query_alone : List ℕ → Query → List (List ℕ) → List (List ℕ) → Compiled
query_alone text query columns names =
    record { command = Select (record { lets = []; body = query }) columns; returning = None; names = names; formats = []; start = 0; end = length text; tail = length text }

abbrev pub IsCompiled : List ℕ → Query → List (List ℕ) → List (List ℕ) → Schema → Type 0
IsCompiled text query columns names schema = compiled schema text ≡ Ok (query_alone text query columns names)

-- the types of the query are not those that `sqlite` takes
abbrev pub IsMistyped : Query → Row → Schema → Type 0
IsMistyped body params schema = IsShown (λ row. row) (record { schema = schema; trees = λ _. [] }) (record { lets = []; body = body }) params None

-- no sum that it shows can overflow
abbrev pub NeverOverflows : Query → Row → Type 0
NeverOverflows body params = (trees : Trees) → ¬ ProgramOverflows trees params [] [] body

module _ (schema : Schema) (text : List ℕ) (query : Query) (columns names : List (List ℕ)) (is : IsCompiled text query columns names schema) where
  pub unlisted : reads_listing schema text ≡ false
  unlisted = ap misses_table is

  pub understood_as : understood schema text ≡ Ok (query_alone text query columns names)
  unfolding understood
  understood_as = subst (λ b. (if b then if_select (compiled listing_schema text) else compiled schema text) ≡ Ok (query_alone text query columns names)) (sym unlisted) is

  one_statement : IsOneStatement text (length names) (understood schema text)
  one_statement = subst (IsOneStatement text (length names)) (sym understood_as) (omega arith, refl, refl, refl)

  pub never_refused : (params : Row) → length params ≡ length names → ¬ IsMistyped query params schema → NeverOverflows query params → IsNeverRefused schema text params
  never_refused params count accepted sums = record {
    statement = subst (λ n. IsOneStatement text n (understood schema text)) (sym count) one_statement;
    accepted = subst (NeverRefuses schema params) (sym understood_as) (λ trees e refused. elim refused [
      | inl mistyped ↦ accepted mistyped.1
      | inr (inl overflows) ↦ sums trees overflows.1
      | inr (inr limited) ↦ true≢false (sym limited.1)
    ]);
    unlisted = unlisted;
  }

pub asks_for_all : (schema : Schema) (text : List ℕ) (tree : ℕ) (terms : List Term) (order : List (Term × Key)) (columns : List (List ℕ)) → IsCompiled text (whole_table tree terms order) columns [] schema → AsksForAll schema text tree terms order
asks_for_all schema text tree terms order columns is =
    let query = whole_table tree terms order in
    record { query = subst (IsQuery query) (sym (understood_as schema text query columns [] is)) (columns, refl, refl, refl); unlisted = unlisted schema text query columns [] is }
