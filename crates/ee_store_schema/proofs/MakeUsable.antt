-- A statement that makes a table under a free name is never refused because of the tables, and neither is a row of numbers.
use Rattle.std.proofs.Common.{◌≡◌, ◌⊎◌, inl, inr, ℕ, Bool, true, false, not, ◌&&◌, List, [], ◌∷◌, Some, None, Option, Ok, Err, Result, IsTrue, refl, sym, ap, subst, ◌∙◌}
use Rattle.std.specs.Prelude.{option_map}
use Rattle.std.specs.List.{list_all}
use Rattle.std.proofs.lemmas.Bool.{cases_Bool}
use Rattle.sqlite.specs.declared.error.Error.{Error}
use Rattle.sqlite.specs.declared.error.ErrorCode.TheVariants as code
use Rattle.sqlite.specs.declared.error.Error.TheVariants.{SqliteFailure}
use Rattle.sqlite_catalog.specs.declared.error.Refusal.{Refusal}
use Rattle.sqlite_catalog.specs.declared.error.Refusal.TheVariants as why
use Rattle.sqlite_rules.specs.declared.error.Refusal as edit
use Rattle.sqlite_rules.specs.declared.error.Refusal.TheVariants as refused
use Rattle.sqlite_rules.specs.Lists.{Has}
use Rattle.sqlite_catalog.specs.Calls.{RefusesTable, RefusesIndex}
use Rattle.sqlite_catalog.specs.Change.{is_used, automatics, created}
use Rattle.sqlite.specs.Order.{Row}
use Rattle.sqlite.specs.Schema.{Schema}
use Rattle.sqlite.specs.Table.{Table}
use Rattle.sqlite_schema.specs.declared.schema.Index.{Index}
use Rattle.sqlite_resolve.specs.declared.compiled.Compiled.{Compiled}
use Rattle.sqlite.specs.Command.{Command}
use Rattle.sqlite.specs.Command.TheVariants.{CreateTable, CreateIndex, Insert}
use Rattle.sqlite.specs.declared.run.Mode.{Mode}
use Rattle.sqlite.specs.Source.TheVariants.{Values}
use Rattle.sqlite.specs.Effect.{Database, alter_error, edit_error}
use Rattle.ee_store_tables.specs.Tables.{counter_schema}
use Rattle.ee_store_tables.proofs.Lemmas.Rows.{same_ok}
use Rattle.ee_store_schema.proofs.FirstLemmas.{terms, desk_row_text, desk_row_is, desk_row_plain, desk_row_whole}
use Rattle.sqlite.specs.Rows.{Part, Then, Gives}
use Rattle.sqlite.specs.Does.{Does, MakesTable, MakesIndex, MakesSequence, Defines, no_rows, lacks_sequence}
use Rattle.sqlite.specs.Clock.{timed}
use Rattle.sqlite.specs.Listing.{understood}
use Rattle.sqlite.specs.State.{State, mode_of, text_of, shows_rows, IsMisplaced, RunsCommand, RunsAlone, ExecutesIn, IsNotRun, ExecutesInside}
use Rattle.sqlite.proofs.Callers.{IsPlain, command_of, statement_of}
use Rattle.ee_store_schema.specs.Inner.Making.{AddsTable, AddsIndex}
use Rattle.ee_store_schema.proofs.Lemmas.Faults.{IsUsable, same_error, store_fails, no_statement}
use Rattle.ee_store_schema.proofs.DefineLemmas.{said}

-- ---- the parts of a statement

abbrev AreUsable : {A : Type 0} → Part A → Type 0
AreUsable P = (e : Error) → P (Err (Some e)) → IsUsable e

pub same_stop : {A : Type 0} {a b : Option Error} → ◌≡◌ {A = Result A (Option Error)} (Err a) (Err b) → a ≡ b
same_stop e = cc

then_usable : {A B : Type 0} (First : Part A) (Next : A → Part B) → AreUsable First → ((a : A) → First (Ok a) → AreUsable (Next a)) → AreUsable (Then First Next)
then_usable {A} First Next one two e (inl (stop, stops, is)) = one e (subst (λ (s : Option Error). First (Err s)) (sym (same_stop is)) stops)
then_usable First Next one two e (inr (a, went, rest)) = two a went e rest

gives_usable : {A : Type 0} (a : A) → AreUsable (Gives a)
gives_usable a e is = absurd (let h = is in cc)

test_fails : (p : Bool) → not p ≡ true → p ≡ true → ⊥
test_fails true a b = cc
test_fails false a b = cc

pub has_free : {X : Type 0} (test : X → Bool) (xs : List X) (x : X) → list_all test xs ≡ true → Has xs x → test x ≡ true
has_free test [] x all has = absurd has
has_free test (y ∷ ys) x all (inl same) = ap test same ∙ first (test y) (list_all test ys) all
  where
    first : (a b : Bool) → (a && b) ≡ true → a ≡ true
    first true b h = refl
    first false b h = absurd cc
has_free test (y ∷ ys) x all (inr has) = has_free test ys x (second (test y) (list_all test ys) all) has
  where
    second : (a b : Bool) → (a && b) ≡ true → b ≡ true
    second true b h = h
    second false b h = absurd cc

never : (b : Bool) → b ≡ false → b ≡ true → ⊥
never b no_it it = let h = sym no_it ∙ it in cc

-- ---- tables

-- the names are free
pub name_free : (before after : Schema) (text : List ℕ) → AddsTable before text after → ¬ RefusesTable before text why.NameTaken
name_free before after text adds (table, defined, inl used) =
    let same : adds.table ≡ table = same_ok (sym adds.defined ∙ defined) in
    never _ adds.free (ap (λ (t : Table). is_used before t.name) same ∙ used)
name_free before after text adds (table, defined, inr (index, has, used)) =
    let same : table ≡ adds.table = same_ok (sym defined ∙ adds.defined) in
    test_fails (is_used before index.name) (has_free (λ (i : Index). not (is_used before i.name)) (automatics adds.table 0 0 adds.table.uniques) index adds.all_free (subst (λ (t : Table). Has (automatics t 0 0 t.uniques) index) same has)) used

table_usable : (before after : Schema) (text : List ℕ) → AddsTable before text after → (reason : Refusal) → RefusesTable before text reason → IsUsable (alter_error reason)
table_usable before after text adds (why.Invalid e) h = absurd (let it = sym adds.defined ∙ h in cc)
table_usable before after text adds why.NameTaken h = absurd (name_free before after text adds h)
table_usable before after text adds why.BadName h = λ u. cc
table_usable before after text adds why.TooBig h = λ u. cc
table_usable before after text adds why.BadKey h = λ u. cc
table_usable before after text adds why.BadText h = λ u. cc
table_usable before after text adds (why.Violates rule) h = absurd h

makes_usable : (before after : Schema) (text : List ℕ) (db : Database) → AddsTable before text after → db.schema ≡ before → AreUsable (MakesTable text db)
makes_usable before after text db adds has e (inl h) = same_error e _ h.1 (λ u. cc)
makes_usable before after text db adds has e (inr (reason, h, is)) = same_error e _ is (table_usable before after text adds reason (subst (λ s. RefusesTable s text reason) has h))

create_usable : (before after : Schema) (text : List ℕ) (db : Database) (mode : Mode) → AddsTable before text after → db.schema ≡ before → AreUsable (Defines mode (Then (MakesTable text db) MakesSequence))
create_usable before after text db mode adds has =
    then_usable (Then (MakesTable text db) MakesSequence) (λ next. Gives (no_rows mode.in_doubt, next)) (then_usable (MakesTable text db) MakesSequence (makes_usable before after text db adds has) (λ next made e h.
    let same : made.table ≡ adds.table = same_ok (sym made.defined ∙ adds.defined) in
    let schema : next.schema ≡ after = made.is ∙ ap (λ s. created s made.table) has ∙ ap (created before) same ∙ adds.is in
    let plain : lacks_sequence next.schema ≡ false = ap lacks_sequence schema ∙ adds.uncounted in
    gives_usable next e (rw plain at h))) (λ next made. gives_usable (no_rows mode.in_doubt, next))

-- ---- indexes

index_usable : (before after : Schema) (text : List ℕ) (db : Database) (adds : AddsIndex before text after) (reason : Refusal) → RefusesIndex before db.trees adds.table text reason → IsUsable (alter_error reason)
index_usable before after text db adds (why.Invalid e) h = absurd (let it = sym adds.defined ∙ h in cc)
index_usable before after text db adds why.NameTaken (index, defined, used) =
    let same : adds.index ≡ index = same_ok (sym adds.defined ∙ defined) in
    absurd (never _ adds.free (ap (λ (i : Index). is_used before i.name) same ∙ used))
index_usable before after text db adds why.BadName h = λ u. cc
index_usable before after text db adds why.TooBig h = λ u. cc
index_usable before after text db adds why.BadKey h = absurd h
index_usable before after text db adds why.BadText h = λ u. cc
index_usable before after text db adds (why.Violates rule) h = λ u. cc

indexes_usable : (before after : Schema) (text : List ℕ) (db : Database) (mode : Mode) (adds : AddsIndex before text after) → db.schema ≡ before → AreUsable (Defines mode (MakesIndex text db adds.table))
indexes_usable before after text db mode adds has = then_usable (MakesIndex text db adds.table) (λ next. Gives (no_rows mode.in_doubt, next)) here (λ next made. gives_usable (no_rows mode.in_doubt, next))
  where
    here : AreUsable (MakesIndex text db adds.table)
    here e (inl h) = same_error e _ h.1 (λ u. cc)
    here e (inr (reason, h, is)) = same_error e _ is (index_usable before after text db adds reason (subst (λ s. RefusesIndex s db.trees adds.table text reason) has h))

-- ---- a statement that was refused

misplaced : (s : State) (command : Command) (e : Error) → IsMisplaced s command e → IsUsable e
misplaced s command e (inl h) = same_error e _ h.0 (λ u. cc)
misplaced s command e (inr h) = same_error e _ h.0 (λ u. cc)

module _ (old new : State) (text : List ℕ) (e : Error) where
  ran : (c : Compiled) (params : Row) → ((err : Error) → Does old.step_limit (mode_of old) params old.now (text_of text c) c.returning c.command (Err (Some err)) → IsUsable err) → RunsCommand old new text c params (Err e) → IsUsable e
  ran c params usable (inl (inl h, same)) = misplaced old c.command e h
  ran c params usable (inl (inr h, same)) = usable e h.1
  ran c params usable (inr h) = store_fails old new e h

  alone : (c : Compiled) (params : Row) → ((err : Error) → Does old.step_limit (mode_of old) params old.now (text_of text c) c.returning c.command (Err (Some err)) → IsUsable err) → RunsAlone false old new text c params (Err e) → IsUsable e
  alone c params usable h = elim (cases_Bool (shows_rows false c)) [
    | inl shows ↦ (let it = (rw shows at h).0 in same_error e _ (same_err it) (λ u. cc))
    | inr runs ↦ ran c params usable (rw runs at h)
  ]
    where
      same_err : {a b : Error} → ◌≡◌ {A = Result ℕ Error} (Err a) (Err b) → a ≡ b
      same_err is = cc

  module _ (before : Schema) (has : old.now.schema ≡ before) (command : Command) (plain : IsPlain (understood before text)) (is : command_of (understood before text) ≡ command) (whole : statement_of text (understood before text) ≡ text)
      (usable : (params : Row) (err : Error) → Does old.step_limit (mode_of old) params old.now text None command (Err (Some err)) → IsUsable err) where
    pub statement_usable : ExecutesInside 0 text [] old new (Err e) → IsUsable e
    unfolding ExecutesIn IsNotRun
    statement_usable (inl (inl (inl h), kept)) = no_statement old text [] e (subst (λ s. IsPlain (understood s text)) (sym has) plain) h.0
    statement_usable (inl (inl (inr h), kept)) = store_fails old new e h
    statement_usable (inl (inr h, kept)) =
        let known = sym h.1.is ∙ ap (λ s. understood s text) has in
        let bare = subst IsPlain (sym known) plain in
        let full = timed [] h.0.formats h.1.now in
        alone h.0 full (λ err does. usable full err (subst (λ k. Does old.step_limit (mode_of old) full old.now text None k (Err (Some err))) (ap command_of known ∙ is)
        (subst (λ t. Does old.step_limit (mode_of old) full old.now t None h.0.command (Err (Some err))) (ap (statement_of text) known ∙ whole)
        (subst (λ r. Does old.step_limit (mode_of old) full old.now (text_of text h.0) r h.0.command (Err (Some err))) bare.0 does)))) h.2
    statement_usable (inr h) = same_error e _ h.1 (λ u. cc)

pub adds_table_usable : (old new : State) (text : List ℕ) (e : Error) (before after : Schema) → AddsTable before text after → old.now.schema ≡ before → ExecutesInside 0 text [] old new (Err e) → IsUsable e
adds_table_usable old new text e before after adds has h =
    let it = said text CreateTable (understood before text) adds.command in
    statement_usable old new text e before has CreateTable it.1 it.0 it.2 (λ params err does. create_usable before after text old.now (mode_of old) adds has err does) h

pub adds_index_usable : (old new : State) (text : List ℕ) (e : Error) (before after : Schema) → AddsIndex before text after → old.now.schema ≡ before → ExecutesInside 0 text [] old new (Err e) → IsUsable e
adds_index_usable old new text e before after adds has h =
    let it = said text (CreateIndex adds.place) (understood before text) adds.command in
    statement_usable old new text e before has (CreateIndex adds.place) it.1 it.0 it.2 (λ params err does.
    let placed = subst (λ s. Does old.step_limit (mode_of old) params (record old.now { schema = s }) text None (CreateIndex adds.place) (Err (Some err))) has does in
    indexes_usable before after text (record old.now { schema = before }) (mode_of old) adds refl err (rw adds.over at placed)) h

-- ---- the desk's row

stopped : {B R : Type 0} {Stops : Option Error → Type 0} (e : Error) → ((stop : Option Error) × Stops stop × (◌≡◌ {A = Result B (Option Error)} (Err (Some e)) (Err stop))) ⊎ R → Stops (Some e) ⊎ R
stopped {Stops = Stops} e (inl (stop, stops, is)) = inl (subst Stops (sym (same_stop is)) stops)
stopped e (inr rest) = inr rest

never_given : {A : Type 0} {Q : Type 0} (a : A) (e : Error) → ◌≡◌ {A = Result A (Option Error)} (Err (Some e)) (Ok a) → Q
never_given a e is = absurd (let h = is in cc)

edit_usable : (e : Error) (reason : Option edit.Refusal) → Some e ≡ option_map edit_error reason → IsUsable e
edit_usable e None is = absurd (let h = is in cc)
edit_usable e (Some reason) is = same_error e (edit_error reason) (same_some is) (each reason)
  where
    same_some : {a b : Error} → Some a ≡ Some b → a ≡ b
    same_some e = cc

    each : (reason : edit.Refusal) → IsUsable (edit_error reason)
    each (refused.Violates rule) u = cc
    each refused.Mismatch u = cc
    each refused.NoRowid u = cc
    each refused.BadReference u = cc
    each refused.TooDeep u = cc

insert_usable : (limit : Option ℕ) (mode : Mode) (params : Row) (db : Database) (e : Error) → Does limit mode params (record db { schema = counter_schema }) desk_row_text None (Insert 0 (Values terms 5)) (Err (Some e)) → IsUsable e
insert_usable limit mode params db e does = elim (stopped e does) [
  | inl wrote ↦ elim (stopped e wrote) [
    | inl given ↦ elim given [ inl h ↦ same_error e _ h.0 (λ u. cc) | inr h ↦ same_error e _ h.0 (λ u. cc) ]
    | inr given ↦ elim (stopped e given.2) [
      | inl counter ↦ never_given _ e counter
      | inr counter ↦ elim (stopped e counter.2) [
        | inl edited ↦ edit_usable e edited.0 edited.2
        | inr edited ↦ elim (stopped e edited.2) [ inl counts ↦ never_given _ e counts | inr counts ↦ never_given _ e counts.2 ]
      ]
    ]
  ]
  | inr wrote ↦ elim (stopped e wrote.2) [
    | inl tested ↦ same_error e _ (some_error tested.1) (λ u. cc)
    | inr tested ↦ elim (stopped e tested.2) [ inl shows ↦ never_given _ e shows | inr shows ↦ never_given _ e shows.2 ]
  ]
]
  where
    some_error : {a b : Error} → Some a ≡ Some b → a ≡ b
    some_error e = cc

pub adds_desk_usable : (old new : State) (e : Error) → old.now.schema ≡ counter_schema → ExecutesInside 0 desk_row_text [] old new (Err e) → IsUsable e
adds_desk_usable old new e has h =
    statement_usable old new desk_row_text e counter_schema has (Insert 0 (Values terms 5)) desk_row_plain desk_row_is desk_row_whole (λ params err does.
    insert_usable old.step_limit (mode_of old) params old.now err (subst (λ s. Does old.step_limit (mode_of old) params (record old.now { schema = s }) desk_row_text None (Insert 0 (Values terms 5)) (Err (Some err))) has does)) h

-- a statement outside a transaction isn't run
pub within_or_ended : (b : Bool) (e : Error) → (IsTrue b → IsUsable e) → (b ≡ false → ◌≡◌ {A = Result ℕ Error} (Err e) (Err (SqliteFailure code.TransactionState))) → IsUsable e
within_or_ended true e within ended = within refl
within_or_ended false e within ended = same_error e _ (same (ended refl)) (λ u. cc)
  where
    same : {a b : Error} → ◌≡◌ {A = Result ℕ Error} (Err a) (Err b) → a ≡ b
    same is = cc
