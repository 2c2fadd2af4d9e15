-- What the query of the version shows.
use Rattle.std.proofs.Common.{◌≡◌, ◌≢◌, ◌⊎◌, inl, inr, ℕ, List, [], ◌∷◌, codes, Some, None, Option, option_map, unwrap_or, slice_get, refl, sym, ap, subst, ◌∙◌, nat_cmp}
use Rattle.std.specs.FinMap.{FinMap, get}
use Rattle.sqlite.specs.declared.types.Value.TheVariants.{Null}
use Rattle.sqlite.specs.Order.{Row}
use Rattle.sqlite.specs.Effect.{Database, Reads, ReadsFirst}
use Rattle.sqlite_schema.specs.Program.{lets_of}
use Rattle.sqlite_schema.specs.declared.schema.View.{View}
use Rattle.sqlite_schema.specs.declared.command.Command.{Command}
use Rattle.sqlite_sql.proofs.ProgramLemmas.{computes_weaker}
use Rattle.sqlite.specs.Term.{col}
use Rattle.sqlite.specs.Query.{Query}
use Rattle.sqlite.specs.Table.{Table}
use Rattle.sqlite.specs.Schema.{Schema}
use Rattle.sqlite_schema.specs.declared.schema.Index.{Index}
use Rattle.sqlite_resolve.specs.Compile.{compiled}
use Rattle.sqlite.specs.Command.TheVariants.{Select, Rows as Values}
use Rattle.sqlite_tied.specs.Compute.{everything}
use Rattle.sqlite.specs.Listing.{understood}
use Rattle.sqlite.specs.Clock.{timed}
use Rattle.sqlite.specs.State.{State, Shown, ShowsRows, Begins}
use Rattle.sqlite.proofs.Callers.{IsPlain, command_of, reads_as}
use Rattle.ee_store_tables.specs.Tables.{desk}
use Rattle.ee_store_tables.specs.Rows.{Rows, DeskRow, desk_columns}
use Rattle.ee_store_tables.proofs.Lemmas.Rows.{by_number, found_by_number}
use Rattle.ee_store_schema.specs.declared.forms.Form.{Form}
use Rattle.ee_store_schema.specs.declared.forms.Form.TheVariants.{Current, First, Earliest}
use Rattle.ee_store_schema.specs.Forms.{IsIn, version_of, HoldsIn}
use Rattle.ee_store_schema.proofs.Lemmas.Forms.{tables_in, common, in_form}
use Rattle.ee_store_load.proofs.AskLemmas.{only_version}
use Rattle.ee_store_load.proofs.TextLemmas.{begun_with, of_each, IsCompiled, unlisted, understood_as}
use Rattle.ee_store_load.specs.Opening.{IsOfForm, IsOther, IsOtherVersion, version_text, given_id, SeesDesk}
use Rattle.ee_store_load.specs.Inner.Opening.{version_shown, versions_of, versions_in, Names}

abbrev pub version_query : Query
version_query = by_number 0 (col 1 2 ∷ [])

version_in_each : (more : List Table) (indexes : List Index) (views : List View) → IsCompiled version_text version_query (codes "version" ∷ []) (codes "?1" ∷ []) (begun_with more indexes views)
unfolding compiled everything
version_in_each more indexes views = refl

pub version_is : (form : Form) (schema : Schema) → IsCompiled version_text version_query (codes "version" ∷ []) (codes "?1" ∷ []) (tables_in form schema)
version_is = of_each (IsCompiled version_text version_query (codes "version" ∷ []) (codes "?1" ∷ [])) version_in_each

version_known : (form : Form) (schema : Schema) → command_of (understood (tables_in form schema) version_text) ≡ Select (record { lets = []; body = version_query }) (codes "version" ∷ [])
version_known form schema = ap command_of (understood_as (tables_in form schema) version_text version_query _ _ (version_is form schema))

pub version_plain : (form : Form) (schema : Schema) → IsPlain (understood (tables_in form schema) version_text)
version_plain form schema = subst IsPlain (sym (understood_as (tables_in form schema) version_text version_query _ _ (version_is form schema))) (refl, refl)

pub shows_version : (form : Form) (old new : State) (rows : Rows) (found : List Row) → IsIn form old.now.schema → HoldsIn form old.now.trees rows → Shown version_text given_id old new found
    → found ≡ versions_in rows
shows_version form old new rows found has stands shown =
    let schema = old.now.schema in
    found_by_number desk_columns 0 version_query.project 1 [] (λ e. version_shown e.1) (λ r e one. rw (one 2) refl) old.now.trees rows.desk found refl (common form old.now.trees rows stands).desk
    ((reads_as version_text given_id old new (tables_in form schema) (in_form form schema has) _ (version_known form schema) (version_plain form schema) (unlisted (tables_in form schema) version_text version_query _ _ (version_is form schema)) found shown).answer Null)

-- ---- if the tables may be others

-- the desk is the first table
version_first : (more : List Table) (indexes : List Index) (views : List View)
    → IsCompiled version_text version_query (codes "version" ∷ []) (codes "?1" ∷ []) (record { tables = desk ∷ more; indexes = indexes; views = views })
unfolding compiled everything
version_first more indexes views = refl

module _ (s : State) (rows : FinMap nat_cmp DeskRow) (sees : SeesDesk s rows) where
  version_there : IsCompiled version_text version_query (codes "version" ∷ []) (codes "?1" ∷ []) s.now.schema
  version_there = subst (λ tables. IsCompiled version_text version_query (codes "version" ∷ []) (codes "?1" ∷ []) (record s.now.schema { tables = tables })) (sym sees.first)
      (version_first sees.more s.now.schema.indexes s.now.schema.views)

  pub plain_there : IsPlain (understood s.now.schema version_text)
  plain_there = subst IsPlain (sym (understood_as s.now.schema version_text version_query _ _ version_there)) (refl, refl)

  known_there : command_of (understood s.now.schema version_text) ≡ Select (record { lets = []; body = version_query }) (codes "version" ∷ [])
  known_there = ap command_of (understood_as s.now.schema version_text version_query _ _ version_there)

  pub shows_desk : (new : State) (found : List Row) → Shown version_text given_id s new found → found ≡ versions_of rows
  shows_desk new found shown =
      found_by_number desk_columns 0 version_query.project 1 [] (λ e. version_shown e.1) (λ r e one. rw (one 2) refl) s.now.trees rows found refl sees.held
      ((reads_as version_text given_id s new s.now.schema refl _ known_there plain_there (unlisted s.now.schema version_text version_query _ _ version_there) found shown).answer Null)

-- what a command gives, it gives the first rows of
begins_with : (command : Command) (db : Database) (params : Row) (row : Row) (more : List Row) → Reads command db params (row ∷ more) → ReadsFirst command db params (row ∷ [])
begins_with (Select q names) db params row more h = (h.typed, computes_weaker db.trees params (lets_of q) [] _ _ (λ all sure. (more, sure)) h.answer)
begins_with (Values values width names) db params row more h = (more, h)
begins_with _ db params row more h = absurd h

-- the first row of an answer begins one
pub first_shown : (old new : State) (rows : List Row) (row : Row) → slice_get rows 0 ≡ Some row → Shown version_text given_id old new rows → Begins version_text given_id old (row ∷ [])
unfolding Shown Begins
first_shown old new [] row first shown = absurd cc
first_shown old new (r ∷ more) row first shown =
    let same : r ≡ row = cc in
    let none : shown.0.returning ≡ None = only_version old.now.schema shown.0 shown.1.is in
    let full = timed given_id shown.0.formats shown.1.now in
    let it = subst (ShowsRows old new version_text shown.0 full (r ∷ more)) none shown.2 in
    (shown.0, shown.1, none, it.0, it.1, begins_with shown.0.command it.0 full row more (subst (λ a. Reads shown.0.command it.0 full (a ∷ more)) same it.2))

-- a version that this program knows, which the desk's row names, is no other
pub no_other : (rows : FinMap nat_cmp DeskRow) (version : ℕ) → option_map (λ d. d.version) (get rows 1) ≡ Some version → (version ≡ 1) ⊎ (version ≡ 2) → ¬ IsOther rows
no_other rows version is known other =
    let same : other.0.version ≡ version = ap (λ n. unwrap_or n 0) (sym (ap (option_map (λ d. d.version)) other.1) ∙ is) in
    elim known [ inl first ↦ other.2 (same ∙ first) | inr second ↦ other.3 (same ∙ second) ]

-- and one that it doesn't know is another
pub other_named : (rows : FinMap nat_cmp DeskRow) (version : ℕ) → option_map (λ d. d.version) (get rows 1) ≡ Some version → (version ≢ 1) × (version ≢ 2) → IsOther rows
other_named rows version is unknown = named_in (get rows 1) refl is
  where
    named_in : (found : Option DeskRow) → get rows 1 ≡ found → option_map (λ d. d.version) found ≡ Some version → IsOther rows
    named_in None there is = absurd cc
    named_in (Some desk) there is =
        let same : desk.version ≡ version = ap (λ n. unwrap_or n 0) is in
        (desk, there, (λ one. unknown.0 (sym same ∙ one)), (λ two. unknown.1 (sym same ∙ two)))

abbrev version_in : Option DeskRow → ℕ
version_in None = 0
version_in (Some desk) = desk.version

-- the version of a form is one of the two
known_form : (form : Form) (n : ℕ) → n ≡ version_of form → n ≢ 1 → n ≢ 2 → ⊥
known_form Current n is first second = second is
known_form First n is first second = first is
known_form Earliest n is first second = first is

pub one_version : (form : Form) (rows : Rows) → IsOfForm form rows → ¬ IsOtherVersion rows
one_version form rows named other = known_form form other.0.version (ap version_in (sym other.1 ∙ named.1) ∙ named.2) other.2 other.3

-- the version that was read is that which the desk's row names
same_version : (version : ℕ) (rows : Rows) → Names version rows → (desk : DeskRow) → get rows.desk 1 ≡ Some desk → version ≡ desk.version
same_version version rows named row is = named.2 ∙ ap version_in (sym named.1 ∙ is)

pub of_form : (form : Form) (version : ℕ) (rows : Rows) → Names version rows → version ≡ version_of form → IsOfForm form rows
of_form form version rows named is = (named.0, named.1, sym named.2 ∙ is)

-- rows of the version of their form name it
pub names_form : (form : Form) (version : ℕ) (rows : Rows) → Names version rows → IsOfForm form rows → version ≡ version_of form
names_form form version rows named is = same_version version rows named is.0 is.1 ∙ is.2

-- a version that this program knows is no other
pub known_is_no_other : (version : ℕ) (rows : Rows) → Names version rows → (version ≡ 1) ⊎ (version ≡ 2) → ¬ IsOtherVersion rows
known_is_no_other version rows named (inl first) other = other.2 (sym (same_version version rows named other.0 other.1) ∙ first)
known_is_no_other version rows named (inr second) other = other.3 (sym (same_version version rows named other.0 other.1) ∙ second)
