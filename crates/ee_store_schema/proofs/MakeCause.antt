-- A statement that makes the tables fails only for a cause.
use Rattle.std.proofs.Common.{◌≡◌, ◌⊎◌, inl, inr, Result, ℕ, List, [], false, Some, None, Option, Ok, Err, refl, sym, ap, subst, ◌∙◌}
use Rattle.std.specs.List.{AllByRecursion}
use Rattle.std.specs.Prelude.{IsUtf8}
use Rattle.sqlite.specs.declared.error.Error.{Error}
use Rattle.sqlite.specs.Schema.{Schema}
use Rattle.sqlite_resolve.specs.declared.compiled.Compiled.{Compiled}
use Rattle.sqlite.specs.Command.{Command}
use Rattle.sqlite.specs.Command.TheVariants.{CreateTable, CreateIndex}
use Rattle.sqlite.specs.declared.run.Mode.{Mode}
use Rattle.sqlite.specs.Calls.{IsWrite}
use Rattle.sqlite.specs.Change.{created}
use Rattle.sqlite_catalog.specs.Calls.{RefusesTable, RefusesIndex}
use Rattle.sqlite.specs.Effect.{Database}
use Rattle.sqlite.specs.Rows.{Part, Then, Gives}
use Rattle.sqlite.specs.Does.{Does, MakesTable, MakesIndex, MakesSequence, Defines, no_rows, lacks_sequence}
use Rattle.sqlite.specs.Clock.{timed}
use Rattle.sqlite.specs.Listing.{understood}
use Rattle.sqlite.specs.State.{State, mode_of, text_of, shows_rows, IsMisplaced, RunsCommand, RunsAlone, ExecutesIn, EndsScope, Escapes, ExecutesInside}
use Rattle.sqlite.proofs.Callers.{command_of, statement_of}
use Rattle.ee_store_schema.specs.Inner.Making.{AddsTable, AddsIndex, TakesTable, TakesIndex}
use Rattle.ee_store_schema.specs.Inner.Asking.{IsOneStatement}
use Rattle.ee_store_schema.proofs.Lemmas.Causes.{Excuses, fails_excused, not_run_excused}
use Rattle.ee_store_schema.proofs.DefineLemmas.{said}
use Rattle.ee_store_schema.proofs.MakeUsable.{same_stop}
use Rattle.ee_store_tables.proofs.Lemmas.Rows.{same_ok}

-- ---- parts that always give a value

abbrev pub NeverStops : {A : Type 0} → Part A → Type 0
NeverStops P = (stop : Option Error) → ¬ P (Err stop)

pub then_never : {A B : Type 0} (First : Part A) (Next : A → Part B) → NeverStops First → ((a : A) → First (Ok a) → NeverStops (Next a)) → NeverStops (Then First Next)
then_never First Next one two stop (inl (why, stops, is)) = one why stops
then_never First Next one two stop (inr (a, went, rest)) = two a went stop rest

pub gives_never : {A : Type 0} (a : A) → NeverStops (Gives a)
gives_never a stop is = absurd (let h = is in cc)

-- a part that stopped did so itself, or what follows it
pub stopped : {B R : Type 0} {Stops : Option Error → Type 0} (stop : Option Error) → ((why : Option Error) × Stops why × (◌≡◌ {A = Result B (Option Error)} (Err stop) (Err why))) ⊎ R → Stops stop ⊎ R
stopped {Stops = Stops} stop (inl (why, stops, is)) = inl (subst Stops (sym (same_stop is)) stops)
stopped stop (inr rest) = inr rest

pub never_given : {A : Type 0} (a : A) (stop : Option Error) → ◌≡◌ {A = Result A (Option Error)} (Err stop) (Ok a) → ⊥
never_given a stop is = let h = is in cc

-- ---- a write is run if it stands

misplaced_never : (s : State) (command : Command) (e : Error) → IsWrite command → ¬ IsMisplaced s command e
misplaced_never s command e writes (inl (told, inl (is, inside))) = subst IsWrite is writes
misplaced_never s command e writes (inl (told, inr (inl is, outside))) = subst IsWrite is writes
misplaced_never s command e writes (inl (told, inr (inr is, outside))) = subst IsWrite is writes
misplaced_never s command e writes (inr (told, name, inl is, unnamed)) = subst IsWrite is writes
misplaced_never s command e writes (inr (told, name, inr is, unnamed)) = subst IsWrite is writes

escapes_never : (held : ℕ) (s : State) (command : Command) → IsWrite command → ¬ Escapes held s command
escapes_never held s command writes (inl (inl is)) = subst IsWrite is writes
escapes_never held s command writes (inl (inr is)) = subst IsWrite is writes
escapes_never held s command writes (inr (name, inl is, at)) = subst IsWrite is writes
escapes_never held s command writes (inr (name, inr is, at)) = subst IsWrite is writes

module _ (old new : State) (text : List ℕ) (before : Schema) (has : old.now.schema ≡ before) (command : Command) (one : IsOneStatement text 0 (understood before text)) (is : command_of (understood before text) ≡ command)
    (whole : statement_of text (understood before text) ≡ text) (writes : IsWrite command) (unshown : (c : Compiled) → c.command ≡ command → c.returning ≡ None → shows_rows false c ≡ false)
    (never : NeverStops (Does old.step_limit (mode_of old) [] old.now text None command)) where
  module _ (c : Compiled) (known : Ok c ≡ understood before text) where
    same : c.command ≡ command
    same = ap command_of known ∙ is

    bare : IsOneStatement text 0 (Ok c)
    bare = subst (IsOneStatement text 0) (sym known) one

    does_never : NeverStops (Does old.step_limit (mode_of old) [] old.now (text_of text c) c.returning c.command)
    does_never stop does =
        never stop (subst (λ k. Does old.step_limit (mode_of old) [] old.now text None k (Err stop)) same
        (subst (λ t. Does old.step_limit (mode_of old) [] old.now t None c.command (Err stop)) (ap (statement_of text) known ∙ whole)
        (subst (λ r. Does old.step_limit (mode_of old) [] old.now (text_of text c) r c.command (Err stop)) bare.2 does)))

    ran : (e : Error) → RunsCommand old new text c [] (Err e) → Excuses old new e
    ran e (inl (inl placed, kept)) = absurd (misplaced_never old c.command e (subst IsWrite (sym same) writes) placed)
    ran e (inl (inr does, kept)) = absurd (does_never (Some e) does.1)
    ran e (inr h) = fails_excused old new (does_never None) e h

    alone : (e : Error) → RunsAlone false old new text c [] (Err e) → Excuses old new e
    alone e h = ran e (rw (unshown c same bare.2) at h)

  pub statement_excused : (e : Error) → ExecutesInside 0 text [] old new (Err e) → Excuses old new e
  unfolding ExecutesIn EndsScope
  statement_excused e (inl (inl failed, kept)) = not_run_excused old new text [] e (subst (λ s. IsOneStatement text 0 (understood s text)) (sym has) one) failed
  statement_excused e (inl (inr h, kept)) =
      let known = sym h.1.is ∙ ap (λ s. understood s text) has in
      let empty : timed [] h.0.formats h.1.now ≡ [] = subst (λ formats. timed [] formats h.1.now ≡ []) (sym (bare h.0 known).3) refl in
      alone h.0 known e (subst (λ all. RunsAlone false old new text h.0 all (Err e)) empty h.2)
  statement_excused e (inr (h, told, kept)) =
      let known = sym h.1.is ∙ ap (λ s. understood s text) has in
      absurd (escapes_never 0 old h.0.command (subst IsWrite (sym (same h.0 known)) writes) h.2)

-- ---- tables

makes_never : (before : Schema) (text : List ℕ) (db : Database) → IsUtf8 text → TakesTable before text → db.schema ≡ before → NeverStops (MakesTable text db)
makes_never before text db utf8 takes has None h = takes.short h
makes_never before text db utf8 takes has (Some e) (inl h) = h.0 utf8
makes_never before text db utf8 takes has (Some e) (inr h) = takes.taken h.0 (subst (λ s. RefusesTable s text h.0) has h.1)

create_never : (before after : Schema) (text : List ℕ) (db : Database) (mode : Mode) → IsUtf8 text → AddsTable before text after → TakesTable before text → db.schema ≡ before → NeverStops (Defines mode (Then (MakesTable text db) MakesSequence))
create_never before after text db mode utf8 adds takes has =
    then_never (Then (MakesTable text db) MakesSequence) (λ next. Gives (no_rows mode.in_doubt, next)) (then_never (MakesTable text db) MakesSequence (makes_never before text db utf8 takes has) (λ next made stop h.
    let same : made.table ≡ adds.table = same_ok (sym made.defined ∙ adds.defined) in
    let schema : next.schema ≡ after = made.is ∙ ap (λ s. created s made.table) has ∙ ap (created before) same ∙ adds.is in
    let plain : lacks_sequence next.schema ≡ false = ap lacks_sequence schema ∙ adds.uncounted in
    gives_never next stop (rw plain at h))) (λ next made. gives_never (no_rows mode.in_doubt, next))

pub table_excused : (old new : State) (text : List ℕ) (e : Error) (before after : Schema) → IsUtf8 text → AddsTable before text after → TakesTable before text → old.now.schema ≡ before → ExecutesInside 0 text [] old new (Err e) → Excuses old new e
table_excused old new text e before after utf8 adds takes has =
    let it = said text CreateTable (understood before text) adds.command in
    statement_excused old new text before has CreateTable takes.statement it.0 it.2 tt (λ c is none. rw (is, none) refl) (create_never before after text old.now (mode_of old) utf8 adds takes has) e

-- ---- indexes

indexes_never : (before after : Schema) (text : List ℕ) (db : Database) (mode : Mode) (adds : AddsIndex before text after) → IsUtf8 text → TakesIndex before text adds.table → db.schema ≡ before → AllByRecursion (λ t. db.trees t.tree ≡ []) before.tables
    → NeverStops (Defines mode (MakesIndex text db adds.table))
indexes_never before after text db mode adds utf8 takes has none = then_never (MakesIndex text db adds.table) (λ next. Gives (no_rows mode.in_doubt, next)) here (λ next made. gives_never (no_rows mode.in_doubt, next))
  where
    here : NeverStops (MakesIndex text db adds.table)
    here None h = takes.short db.trees none h
    here (Some e) (inl h) = h.0 utf8
    here (Some e) (inr h) = takes.taken db.trees none h.0 (subst (λ s. RefusesIndex s db.trees adds.table text h.0) has h.1)

pub index_excused : (old new : State) (text : List ℕ) (e : Error) (before after : Schema) (adds : AddsIndex before text after) → IsUtf8 text → TakesIndex before text adds.table → old.now.schema ≡ before → AllByRecursion (λ t. old.now.trees t.tree ≡ []) before.tables
    → ExecutesInside 0 text [] old new (Err e) → Excuses old new e
index_excused old new text e before after adds utf8 takes has none =
    let it = said text (CreateIndex adds.place) (understood before text) adds.command in
    statement_excused old new text before has (CreateIndex adds.place) takes.statement it.0 it.2 tt (λ c is none. rw (is, none) refl) (λ stop does.
    let placed = subst (λ s. Does old.step_limit (mode_of old) [] (record old.now { schema = s }) text None (CreateIndex adds.place) (Err stop)) has does in
    indexes_never before after text (record old.now { schema = before }) (mode_of old) adds utf8 takes refl none stop (rw adds.over at placed)) e
