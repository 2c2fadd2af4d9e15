-- What a CREATE TABLE and a CREATE INDEX leave.
use Rattle.std.proofs.Common.{◌≡◌, ℕ, List, [], ◌∷◌, ◌++◌, None, Ok, Err, Result, sym, ap, subst, ◌∙◌, false}
use Rattle.std.specs.List.{AllByRecursion}
use Rattle.sqlite.specs.Schema.{Schema}
use Rattle.sqlite.specs.Table.{Table}
use Rattle.sqlite_resolve.specs.declared.compiled.Compiled.{Compiled}
use Rattle.sqlite_resolve.specs.declared.error.CompileError.{CompileError}
use Rattle.sqlite.specs.Command.{Command}
use Rattle.sqlite.specs.Command.TheVariants.{CreateTable, CreateIndex}
use Rattle.sqlite.specs.Change.{created, indexed, next_tree}
use Rattle.sqlite_catalog.specs.Change.{KeepsRows}
use Rattle.sqlite.specs.Does.{Tally, Does, lacks_sequence}
use Rattle.sqlite.specs.Tree.{Trees}
use Rattle.sqlite.specs.Effect.{Database}
use Rattle.sqlite.specs.Listing.{understood}
use Rattle.sqlite.specs.State.{State, mode_of, Writes, Executes}
use Rattle.sqlite.proofs.Callers.{IsPlain, command_of, statement_of, runs_as}
use Rattle.ee_store_schema.specs.Inner.Making.{IsCommand, AddsTable, AddsIndex, GainsTable}
use Rattle.ee_store_tables.proofs.Lemmas.Rows.{went_on, same_ok}

-- a command as the lemmas on callers say it
pub said : (text : List ℕ) (command : Command) (r : Result Compiled CompileError) → IsCommand text command r → (command_of r ≡ command) × IsPlain r × (statement_of text r ≡ text)
said text command (Ok c) h = (h.0, (h.1, h.2), h.3)
said text command (Err e) h = absurd h

abbrev pub AreEmpty : List Table → Trees → Type 0
AreEmpty tables db = AllByRecursion (λ t. db t.tree ≡ []) tables

pub still_empty : (tables : List Table) (old new : Trees) → KeepsRows tables old new → AreEmpty tables old → AreEmpty tables new
still_empty [] old new keeps none = tt
still_empty (t ∷ ts) old new keeps none = (keeps.0 ∙ none.0, still_empty ts old new keeps.1 none.1)

one_more_empty : (tables : List Table) (t : Table) (db : Trees) → AreEmpty tables db → db t.tree ≡ [] → AreEmpty (tables ++ t ∷ []) db
one_more_empty [] t db none new = (new, tt)
one_more_empty (x ∷ xs) t db none new = (none.0, one_more_empty xs t db none.1 new)

abbrev pub Left : State → Schema → Type 0
Left s schema = (s.now.schema ≡ schema) × AreEmpty schema.tables s.now.trees

pub gains_table : (old new : State) (text : List ℕ) (count : ℕ) (before after : Schema) → AddsTable before text after → old.now.schema ≡ before → Executes text [] old new (Ok count) → GainsTable before after old new
gains_table old new text count before after adds has h =
    let it = said text CreateTable (understood before text) adds.command in
    let w = subst (λ t. Writes old new None CreateTable t [] count) it.2 (runs_as text [] old new before has CreateTable it.0 it.1 count h) in
    let all = went_on w.changed in
    let first = went_on all.1 in
    let made = first.1 in
    let same : made.table ≡ adds.table = same_ok (sym made.defined ∙ adds.defined) in
    let schema : first.0.schema ≡ after = made.is ∙ ap (λ s. created s made.table) has ∙ ap (created before) same ∙ adds.is in
    let plain : lacks_sequence first.0.schema ≡ false = ap lacks_sequence schema ∙ adds.uncounted in
    let now : new.now ≡ first.0 = ap (λ (p : Tally × Database). p.1) (same_ok all.2) ∙ same_ok (rw plain at first.2) in
    record {
      schema = ap (λ (d : Database). d.schema) now ∙ schema;
      empty = subst (λ (d : Database). d.trees (next_tree before) ≡ []) (sym now) (subst (λ s. first.0.trees (next_tree s) ≡ []) has made.empty);
      others = subst (λ (d : Database). KeepsRows before.tables old.now.trees d.trees) (sym now) (subst (λ (s : Schema). KeepsRows s.tables old.now.trees first.0.trees) has made.others);
      sound = w.sound;
    }

-- tables with no rows stay so beside a new one
pub still_none : (old new : State) (text : List ℕ) (before after : Schema) → AddsTable before text after → GainsTable before after old new → AreEmpty before.tables old.now.trees → Left new after
still_none old new text before after adds gains none = (
  gains.schema,
  subst (λ (s : Schema). AreEmpty s.tables new.now.trees) adds.is
      (one_more_empty before.tables (record adds.table { tree = next_tree before }) new.now.trees (still_empty before.tables old.now.trees new.now.trees gains.others none) gains.empty),
)

pub adds_index : (old new : State) (text : List ℕ) (count : ℕ) (before after : Schema) → AddsIndex before text after → Left old before → Executes text [] old new (Ok count) → Left new after
adds_index old new text count before after adds has h =
    let it = said text (CreateIndex adds.place) (understood before text) adds.command in
    let w = subst (λ t. Writes old new None (CreateIndex adds.place) t [] count) it.2 (runs_as text [] old new before has.0 (CreateIndex adds.place) it.0 it.1 count h) in
    let placed = subst (λ s. Does old.step_limit (mode_of old) [] (record old.now { schema = s }) text None (CreateIndex adds.place) (Ok (w.tally, new.now))) has.0 w.changed in
    let all = went_on (rw adds.over at placed) in
    let made = all.1 in
    let now : new.now ≡ all.0 = ap (λ (p : Tally × Database). p.1) (same_ok all.2) in
    let same = same_ok (sym made.defined ∙ adds.defined) in
    let schema : all.0.schema ≡ after = made.is ∙ ap (indexed before adds.table) same ∙ adds.is in
    let none = still_empty before.tables old.now.trees all.0.trees made.rows has.1 in
    subst (λ (d : Database). (d.schema ≡ after) × AreEmpty after.tables d.trees) (sym now) (schema, subst (λ (s : Schema). AreEmpty s.tables all.0.trees) adds.is none)
